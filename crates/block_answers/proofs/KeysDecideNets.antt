-- The keys that are reported decide whether nets are isomorphic, in each sense that keys decide. A net that is refused is that of no accepted
-- block. A block whose graph is certain is accepted.
use Rattle.std.proofs.Common.{◌≡◌, sym, ap, subst, ℕ, suc, ◌+◌, zero, ◌<◌, ℤ, List, [], ◌∷◌, Some, arith, ◌≢◌, ◌∙◌, true, ◌⊎◌, inl, inr, refl, length, ⊎_elim}
use Rattle.std.proofs.lemmas.List.Elements.{All-contains, All-head, All-tail}
use Rattle.std.specs.Prelude.{◌↔◌, is_some, slice_index_or, unwrap_or}
use Rattle.std.{proofs.lemmas.Bool.true≢false, specs.List.All}
use Rattle.periodic_net.specs.{Graph.Graph, Graph.IsConnected, Graph.IsGraph, Maps.BareIso, Maps.Iso}
use Rattle.periodic_net.proofs.CallerLemmas.{bare_connected, bare_of_iso, bare_transitive, iso_reflexive, iso_symmetric, iso_transitive}
use Rattle.key_theory.specs.{Key.IsKeyable, Key.IsKeyOf, Laws.KeysDecideBy}
use Rattle.key_theory.proofs.CallerLemmas.{keys_decide, keys_decide_bare}
use Rattle.cgd_read.specs.Views.{RawView, BodyView, Net, BlockView, body_view, views, raw_view}
use Rattle.cgd_read.specs.{Graphs.graph_of, Blocks.IsReadBody, declared.block.Block.Block, declared.block.Body.Body, Graphs.IsReadGraph}
use Rattle.quotient_graph.{specs.Stars.IsInOrder, proofs.CallerLemmas.in_order_iso}
use Rattle.least_key.proofs.CallerLemmas.{key_of_graph, keyed_is_certain, certain_is_not_refused}
use Rattle.least_key.specs.{AnyNets.net_view, Certain.IsCertain, KeyedNets.KeyedNet, KeyedNets.IsKeyed, Truths.IsOfConnecting, Truths.IsTrueOf}
use Rattle.least_key.specs.declared.refusal.Refusal.{Refusal}
use Rattle.archive_text.specs.Entries.{EntryView}
use Rattle.net_archive.{specs.Archives.IsEntry, proofs.CallerLemmas.keys_decide_archive}
use Rattle.net_report.specs.declared.outcome.OutcomeBody.TheVariants.{Refused, Checked, Located, Keyed, Identified}
use Rattle.net_report.specs.declared.command.Command.TheVariants.{Check, Place, Key, Identify, Components}
use Rattle.net_report.specs.declared.{outcome.Outcome.Outcome, command.Command.Command, outcome.OutcomeBody.OutcomeBody}
use Rattle.net_report.{specs.Keys.key_text, specs.Telling.IsBodyPrintedWhole, specs.Telling.IsPrintedWhole, proofs.CallerLemmas.key_lines_tell}
use Rattle.line_text.specs.Numbers.{IsWide}
use Rattle.block_answers.specs.Laws.{KeyLinesDecide}
use Rattle.block_answers.specs.Deciding.{AreOutcomes, HasKeyAt, IsAcceptedAt, IsBlockAt, IsOfNet, IsRefusedAt, KeysDecideBlocks, KeysDecideEntries}
use Rattle.block_answers.specs.Deciding.{RefusedAreApart, RefusedAreNoEntries, key_told, refusal_told}
use Rattle.block_answers.specs.Outcomes.{IsBodyOf, AreOutcomesFrom, IsRefusedAs, MayTell, is_accepted_body}
use Rattle.block_answers.proofs.{NetOutcomes.is_graph_in, Refusals.refused_parted, Refusals.refusals_tell, Refusals.told_early}
use Rattle.cgd_read.specs.declared.block.Body.TheVariants as read

-- nets that are isomorphic to two that are the same in this sense are so, too
abbrev pub IsCarried : (Graph → Graph → Type 0) → Type 0
IsCarried Same = (G H G' H' : Graph) → Iso G H → Iso G' H' → Same H H' → Same G G'

-- isomorphisms are
iso_carried : IsCarried Iso
iso_carried G H G' H' e e' s = iso_transitive G H G' e (iso_transitive H H' G' s (iso_symmetric G' H' e'))

-- and so are those of the infinite graphs
bare_carried : IsCarried BareIso
bare_carried G H G' H' e e' s =
    bare_transitive G H G' (bare_of_iso G H e) (bare_transitive H H' G' s (bare_of_iso H' G' (iso_symmetric G' H' e')))

-- what decides of two nets decides of those that are isomorphic to them
carried_decide : (Same : Graph → Graph → Type 0) → IsCarried Same → (G H G' H' : Graph) (P : Type 0) → Iso G H → Iso G' H' → P ↔ Same H H' → P ↔ Same G G'
carried_decide Same carried G H G' H' P e e' d = (
  (λ p. carried G H G' H' e e' (d.0 p)),
  (λ s. d.1 (carried H G H' G' (iso_symmetric G H e) (iso_symmetric G' H' e') s)),
)

-- what is reported of the block at place i
body_at : (entries : List EntryView) (command : Command) (n i : ℕ) (bs : List BlockView) (os : List Outcome) (b : BlockView) (o : Outcome)
    → AreOutcomesFrom entries command n bs os
    → i < length bs → slice_index_or bs i b ≡ b → slice_index_or os i o ≡ o → IsBodyOf entries command b.body o.body
body_at entries command n i [] os b o h l e f = absurd (omega (arith, l))
body_at entries command n i (c ∷ bs) [] b o h l e f = absurd h
body_at entries command n zero (c ∷ bs) (x ∷ os) b o h l e f =
    subst (λ (y : Outcome). IsBodyOf entries command b.body y.body) f (subst (λ (y : BlockView). IsBodyOf entries command y.body x.body) e h.0.body)
body_at entries command n (suc i) (c ∷ bs) (x ∷ os) b o h l e f = body_at entries command (n + 1) i bs os b o h.1 (omega (arith, l)) e f

-- what is reported of the net at place i
pub told_at : (entries : List EntryView) (command : Command) (bs : List BlockView) (os : List Outcome) → AreOutcomesFrom entries command 1 bs os
    → (i : ℕ) (b : BlockView) (o : Outcome) (raw : RawView)
    → IsBlockAt bs os i b o → b.body ≡ Net raw → IsBodyOf entries command (Net raw) o.body
told_at entries command bs os h i b o raw at is =
    subst (λ (x : BodyView). IsBodyOf entries command x o.body) is (body_at entries command 1 i bs os b o h at.inside at.block_is at.outcome_is)

-- a graph in order with its net and key
record HasKeyedGraph (raw : RawView) (xs : List ℤ) : Type 0 where
  pub graph : Graph
  pub in_order : IsInOrder (graph_of raw) graph
  pub net : KeyedNet
  pub net_is : net.placed.graph ≡ graph
  pub keyed : IsKeyed net
  pub key : net.key ≡ xs

-- the value that is there
some_is : {A : Type 0} (x y : A) → Some x ≡ Some y → x ≡ y
some_is x y e = ap (λ o. unwrap_or o x) e

-- a net with a key is reported only if the key is asked for
keyed_told : (entries : List EntryView) (command : Command) (raw : RawView) (body : OutcomeBody) (xs : List ℤ) → IsBodyOf entries command (Net raw) body
    → key_told body ≡ Some xs → HasKeyedGraph raw xs
keyed_told entries Key raw (Keyed size net) xs h e = record {
  graph = h.graph;
  in_order = h.read.in_order;
  net = net_view net;
  net_is = h.net_is;
  keyed = h.keyed;
  key = some_is (net_view net).key xs e;
}
keyed_told entries Identify raw (Identified size vertices net shells names) xs h e = record {
  graph = h.keyed.graph;
  in_order = h.keyed.read.in_order;
  net = net_view net;
  net_is = h.keyed.net_is;
  keyed = h.keyed.keyed;
  key = some_is (net_view net).key xs e;
}
keyed_told entries command raw (Keyed size net) xs h e = absurd h
keyed_told entries command raw (Identified size vertices net shells names) xs h e = absurd h
keyed_told entries command raw body xs h e = absurd (true≢false (sym (ap is_some e)))

-- the graph and its key
in_order_key : (raw : RawView) (xs : List ℤ) → (a : HasKeyedGraph raw xs) → IsGraph a.graph × IsKeyOf a.graph xs
in_order_key raw xs a = (
  subst IsGraph a.net_is a.keyed.is_graph,
  subst (IsKeyOf a.graph) a.key (subst (λ (G : Graph). IsKeyOf G a.net.key) a.net_is (key_of_graph a.net a.keyed)),
)

-- a graph in order of which a refusal is true
record HasRefusedGraph (command : Command) (raw : RawView) (refusal : Refusal) : Type 0 where
  pub graph : Graph
  pub in_order : IsInOrder (graph_of raw) graph
  pub is_graph : IsGraph graph
  pub may : MayTell command refusal
  pub is_true : IsTrueOf graph refusal

-- a refusal is reported only if it is true
refused_told : (entries : List EntryView) (command : Command) (raw : RawView) (body : OutcomeBody) (refusal : Refusal)
    → IsBodyOf entries command (Net raw) body
    → refusal_told body ≡ Some refusal → HasRefusedGraph command raw refusal
refused_told entries command raw (Refused size names given) refusal h e = record {
  graph = h.graph;
  in_order = h.read.in_order;
  is_graph = h.read.is_graph;
  may = subst (MayTell command) (some_is given refusal e) h.may;
  is_true = subst (IsTrueOf h.graph) (some_is given refusal e) h.is_true;
}
refused_told entries command raw body refusal h e = absurd (true≢false (sym (ap is_some e)))

-- a graph in order whose net is connected, and has a key if another refusal of the net may be reported
record HasAcceptedGraph (command : Command) (raw : RawView) : Type 0 where
  pub graph : Graph
  pub in_order : IsInOrder (graph_of raw) graph
  pub is_graph : IsGraph graph
  pub connected : IsConnected graph
  pub keyable : (refusal : Refusal) → MayTell command refusal → IsOfNet refusal → IsOfConnecting refusal ⊎ IsKeyable graph

-- a graph with a key is so
accepted_by_key : (command : Command) (raw : RawView) (xs : List ℤ) → HasKeyedGraph raw xs → HasAcceptedGraph command raw
accepted_by_key command raw xs a =
    let k = subst IsKeyable a.net_is (keyed_is_certain a.net a.keyed).keyable in
    record {
      graph = a.graph;
      in_order = a.in_order;
      is_graph = (in_order_key raw xs a).0;
      connected = k.shape.stable.connected;
      keyable = λ refusal m r. inr k;
    }

-- an accepted graph is so; if its key is not asked for, no other refusal of the net is reported
accepted_graph : (entries : List EntryView) (command : Command) (raw : RawView) (body : OutcomeBody) → IsBodyOf entries command (Net raw) body
    → is_accepted_body body ≡ true → HasAcceptedGraph command raw
accepted_graph entries Check raw (Checked size) h e = record {
  graph = h.graph;
  in_order = h.read.in_order;
  is_graph = h.read.is_graph;
  connected = h.connected;
  keyable = λ refusal m r. inl (told_early Check (λ dim u v t n. n) (λ done counted n. n) refusal m r);
}
accepted_graph entries Place raw (Located size names placed) h e = record {
  graph = h.graph;
  in_order = h.read.in_order;
  is_graph = h.read.is_graph;
  connected = h.placed_as.connected;
  keyable = λ refusal m r. inl (told_early Place (λ dim u v t n. n) (λ done counted n. n) refusal m r);
}
accepted_graph entries Key raw (Keyed size net) h e =
    accepted_by_key Key raw (net_view net).key (keyed_told entries Key raw (Keyed size net) (net_view net).key h refl)
accepted_graph entries Identify raw (Identified size vertices net shells names) h e =
    accepted_by_key Identify raw (net_view net).key
    (keyed_told entries Identify raw (Identified size vertices net shells names) (net_view net).key h refl)
accepted_graph entries command raw (Checked size) h e = absurd h
accepted_graph entries command raw (Located size names placed) h e = absurd h
accepted_graph entries command raw (Keyed size net) h e = absurd h
accepted_graph entries command raw (Identified size vertices net shells names) h e = absurd h
accepted_graph entries command raw body h e = absurd (true≢false (sym e))

module _ (entries : List EntryView) (command : Command) (bs : List BlockView) (os : List Outcome) (h : AreOutcomesFrom entries command 1 bs os) where
  -- what is reported of a key
  keyed_at : (i : ℕ) (raw : RawView) (xs : List ℤ) → HasKeyAt bs os i raw xs → HasKeyedGraph raw xs
  keyed_at i raw xs k = keyed_told entries command raw k.outcome.body xs (told_at entries command bs os h i k.block k.outcome raw k.at k.graph) k.told

  -- the graph of a refusal
  refused_at : (i : ℕ) (raw : RawView) → (k : IsRefusedAt bs os i raw) → HasRefusedGraph command raw k.refusal
  refused_at i raw k =
      refused_told entries command raw k.outcome.body k.refusal (told_at entries command bs os h i k.block k.outcome raw k.at k.graph) k.told

  -- and that of an accepted block
  accepted_at : (i : ℕ) (raw : RawView) → IsAcceptedAt bs os i raw → HasAcceptedGraph command raw
  accepted_at i raw k = accepted_graph entries command raw k.outcome.body (told_at entries command bs os h i k.block k.outcome raw k.at k.graph) k.told

  -- an accepted net is connected, and has a key if another refusal may be reported; a refused one is not, or has none
  pub refused_are_apart : RefusedAreApart bs os
  refused_are_apart i j raw raw' k l e =
      let a = refused_at i raw k in let b = accepted_at j raw' l in
      let there = iso_symmetric (graph_of raw) a.graph (in_order_iso (graph_of raw) a.graph a.in_order) in
      let there' = iso_symmetric (graph_of raw') b.graph (in_order_iso (graph_of raw') b.graph b.in_order) in
      let here = bare_carried a.graph (graph_of raw) b.graph (graph_of raw') there there' e in
      ⊎_elim
      (λ early. refused_parted a.graph k.refusal a.is_graph a.is_true k.of_net early
      (bare_connected a.graph b.graph b.is_graph here b.connected))
      (λ c. refusals_tell a.graph b.graph k.refusal a.is_graph b.is_graph a.is_true k.of_net c here)
      (b.keyable k.refusal a.may k.of_net)

  -- nor is it the graph of an entry, which has a key
  pub refused_are_no_entries : All IsEntry entries → RefusedAreNoEntries entries bs os
  refused_are_no_entries good i raw e k there b =
      let a = refused_at i raw k in let entry = All-contains IsEntry entries e good there in
      let to_raw = iso_symmetric (graph_of raw) a.graph (in_order_iso (graph_of raw) a.graph a.in_order) in
      let here = bare_carried a.graph (graph_of raw) e.graph e.graph to_raw (iso_reflexive e.graph) b in
      refusals_tell a.graph e.graph k.refusal a.is_graph entry.is_graph a.is_true k.of_net entry.certain.keyable here

-- In each sense that keys decide.

module _ (Same : Graph → Graph → Type 0) (tell : KeysDecideBy Same) (carried : IsCarried Same) (entries : List EntryView) (command : Command)
    (bs : List BlockView) (os : List Outcome) (h : AreOutcomesFrom entries command 1 bs os) where
  -- the keys of two blocks decide
  pub keys_decide_blocks : KeysDecideBlocks Same bs os
  keys_decide_blocks i j raw raw' xs ys k l =
      let a = keyed_at entries command bs os h i raw xs k in let b = keyed_at entries command bs os h j raw' ys l in
      let c = in_order_key raw xs a in let d = in_order_key raw' ys b in
      carried_decide Same carried (graph_of raw) a.graph (graph_of raw') b.graph (xs ≡ ys) (in_order_iso (graph_of raw) a.graph a.in_order)
      (in_order_iso (graph_of raw') b.graph b.in_order) (tell a.graph b.graph xs ys c.0 d.0 c.1 d.1)

  -- and those of a block and of an entry
  pub keys_decide_entries : All IsEntry entries → KeysDecideEntries Same entries bs os
  keys_decide_entries good i raw xs e k there =
      let a = keyed_at entries command bs os h i raw xs k in let c = in_order_key raw xs a in
      let entry = All-contains IsEntry entries e good there in
      carried_decide Same carried (graph_of raw) a.graph e.graph e.graph (xs ≡ e.key) (in_order_iso (graph_of raw) a.graph a.in_order)
      (iso_reflexive e.graph) (tell a.graph e.graph xs e.key c.0 entry.is_graph c.1 entry.key)

-- so do the keys of two nets, of one report or of two, under whatever commands and beside whatever archives
pub bodies_decide : (entries entries' : List EntryView) (command command' : Command) (raw raw' : RawView) (told told' : OutcomeBody) (xs ys : List ℤ)
    → IsBodyOf entries command (Net raw) told → IsBodyOf entries' command' (Net raw') told' → key_told told ≡ Some xs → key_told told' ≡ Some ys
    → (xs ≡ ys) ↔ BareIso (graph_of raw) (graph_of raw')
bodies_decide entries entries' command command' raw raw' told told' xs ys h h' e e' =
    let a = keyed_told entries command raw told xs h e in let b = keyed_told entries' command' raw' told' ys h' e' in
    let c = in_order_key raw xs a in let d = in_order_key raw' ys b in
    carried_decide BareIso bare_carried (graph_of raw) a.graph (graph_of raw') b.graph (xs ≡ ys) (in_order_iso (graph_of raw) a.graph a.in_order)
    (in_order_iso (graph_of raw') b.graph b.in_order) (keys_decide_bare a.graph b.graph xs ys c.0 d.0 c.1 d.1)

-- what is reported of the block at place i is printed whole
whole_at : (entries : List EntryView) (command : Command) (n i : ℕ) (bs : List BlockView) (os : List Outcome) (o : Outcome)
    → AreOutcomesFrom entries command n bs os → i < length bs → slice_index_or os i o ≡ o → IsPrintedWhole o
whole_at entries command n i [] os o h l e = absurd (omega (arith, l))
whole_at entries command n i (b ∷ bs) [] o h l e = absurd h
whole_at entries command n zero (b ∷ bs) (x ∷ os) o h l e = subst IsPrintedWhole e h.0.whole
whole_at entries command n (suc i) (b ∷ bs) (x ∷ os) o h l e = whole_at entries command (n + 1) i bs os o h.1 (omega (arith, l)) e

key_whole : (body : OutcomeBody) (xs : List ℤ) → IsBodyPrintedWhole body → key_told body ≡ Some xs → All IsWide xs
key_whole (Keyed size net) xs h e = subst (All IsWide) (some_is (net_view net).key xs e) h.1
key_whole (Identified size vertices net shells names) xs h e = subst (All IsWide) (some_is (net_view net).key xs e) h.1
key_whole body xs h e = absurd (true≢false (sym (ap is_some e)))

-- so the printed lines of two keys decide
pub key_lines_decide : KeyLinesDecide
key_lines_decide entries entries' command command' bs cs os ps h h' i j raw raw' xs ys k l =
    let d = bodies_decide entries entries' command command' raw raw' k.outcome.body l.outcome.body xs ys
    (told_at entries command bs os h i k.block k.outcome raw k.at k.graph) (told_at entries' command' cs ps h' j l.block l.outcome raw' l.at l.graph)
    k.told l.told in
    let wide = key_whole k.outcome.body xs (whole_at entries command 1 i bs os k.outcome h k.at.inside k.at.outcome_is).body k.told in
    let wide' = key_whole l.outcome.body ys (whole_at entries' command' 1 j cs ps l.outcome h' l.at.inside l.at.outcome_is).body l.told in
    ((λ e. d.0 (key_lines_tell xs ys wide wide' e)), (λ b. ap key_text (d.1 b)))

-- a refusal of a certain graph is none
certain_not_refused : (command : Command) (raw : RawView) (size : _) (names : List (List ℕ)) (refusal : _) → IsGraph (graph_of raw)
    → IsRefusedAs command raw size names refusal
    → ((G : Graph) → IsInOrder (graph_of raw) G → IsCertain G) → ⊥
certain_not_refused command raw size names refusal g h certain =
    let is_graph = is_graph_in raw h.graph g h.read.in_order in
    let none = certain_is_not_refused h.graph refusal is_graph (certain h.graph h.read.in_order) h.is_true in
    subst (MayTell command) none h.may

-- so what is reported of a certain graph accepts it, but if its components are asked for
accepted_told : (entries : List EntryView) (command : Command) (raw : RawView) (told : OutcomeBody) → IsGraph (graph_of raw)
    → IsBodyOf entries command (Net raw) told → command ≢ Components
    → ((G : Graph) → IsInOrder (graph_of raw) G → IsCertain G) → is_accepted_body told ≡ true
accepted_told entries command raw told k l p q = grind (arith, certain_not_refused)

-- each block that is a net is a graph
abbrev pub AreGraphs : List BlockView → Type 0
AreGraphs blocks = (i : ℕ) (block : BlockView) (raw : RawView) → i < length blocks → slice_index_or blocks i block ≡ block → block.body ≡ Net raw
    → IsGraph (graph_of raw)

-- outcomes of the blocks that were read, beside the entries of an archive, decide
pub outcomes_decide : (entries : List EntryView) (command : Command) (blocks : List BlockView) (outcomes : List Outcome)
    → AreOutcomesFrom entries command 1 blocks outcomes → All IsEntry entries → AreGraphs blocks
    → AreOutcomes command entries blocks outcomes
outcomes_decide entries command blocks outcomes h good graphs = record {
  each = h;
  keys = keys_decide_blocks Iso keys_decide iso_carried entries command blocks outcomes h;
  entry_keys = keys_decide_entries Iso keys_decide iso_carried entries command blocks outcomes h good;
  archive_keys = keys_decide_archive Iso keys_decide entries good;
  bare_keys = keys_decide_blocks BareIso keys_decide_bare bare_carried entries command blocks outcomes h;
  bare_entry_keys = keys_decide_entries BareIso keys_decide_bare bare_carried entries command blocks outcomes h good;
  bare_archive_keys = keys_decide_archive BareIso keys_decide_bare entries good;
  key_lines = key_lines_decide entries entries command command blocks blocks outcomes outcomes h h;
  refused = refused_are_apart entries command blocks outcomes h;
  refused_entries = refused_are_no_entries entries command blocks outcomes h good;
  certain = λ other i block outcome raw at is certain.
      accepted_told entries command raw outcome.body (graphs i block raw at.inside at.block_is is)
      (told_at entries command blocks outcomes h i block outcome raw at is) other certain;
}

-- what is read of a block that is a net is a graph
pub read_graph : (body : Body) (raw : RawView) → IsReadBody body → body_view body ≡ Net raw → IsReadGraph raw
read_graph (read.Graph own) raw h e = let same : raw_view own ≡ raw = cc in subst IsReadGraph same h
read_graph body raw h e = absurd (cc)

-- so are all blocks that were read
pub graphs_read : (found : List Block) → All (λ (b : Block). IsReadBody b.body) found → AreGraphs (views found)
graphs_read [] h i block raw l at is = absurd (omega (arith, l))
graphs_read (b ∷ found) h zero block raw l at is =
    (read_graph b.body raw (All-head (λ (b : Block). IsReadBody b.body) b found h) (ap (λ (x : BlockView). x.body) at ∙ is)).is_graph
graphs_read (b ∷ found) h (suc i) block raw l at is = graphs_read found (All-tail (λ (b : Block). IsReadBody b.body) b found h) i block raw
    (omega (arith, l)) at is
