-- What a command reports on a block, and on its components, is one.
use Rattle.std.proofs.Common.{◌≡◌, ◌≢◌, ◌∙◌, ◌&&◌, inl, inr, ℕ, ◌+◌, suc, Bool, List, [], ◌∷◌, ◌++◌, length, map, get_or, drop, All, Result, Ok, Err, refl}
use Rattle.std.proofs.Common.{sym, ap, subst, Some, arith, true, true≢false}
use Rattle.std.{proofs.lemmas.List.Elements.All-head, proofs.lemmas.List.Elements.All-tail, specs.List.list_all, specs.Prelude.codes}
use Rattle.integers.specs.Lists.{AreMatched}
use Rattle.periodic_net.specs.Graph.{Graph, IsGraph, IsConnected}
use Rattle.periodic_net.proofs.CallerLemmas.{split_shows_not_connected}
use Rattle.quotient_graph.{specs.AnyGraphs.graph_view, specs.Splits.split_view, specs.Stars.IsInOrder, proofs.CallerLemmas.one_in_order}
use Rattle.net_components.specs.Parts.{AreParts, PartView, view_of}
use Rattle.net_components.{proofs.CallerLemmas.part_graph, proofs.CallerLemmas.answer_is_one, specs.declared.parts.Part.Part}
use Rattle.least_key.specs.declared.refusal.Refusal.TheVariants.{NoMemory, Disconnected, Degenerate}
use Rattle.least_key.proofs.CallerLemmas.{certain_is_not_refused, keyed_is_certain, one_net, one_refusal, one_placed, placed_is_not_refused}
use Rattle.least_key.specs.{AnyNets.net_view, AnyPlacements.placed_view, Placings.IsPlacedAs, Laws.TellAlike, KeyedNets.KeyedNet, KeyedNets.IsKeyed}
use Rattle.least_key.specs.{Truths.IsTrueOf, Truths.IsOfPlacing, declared.net.Net.Net as AnyNet, declared.refusal.Refusal.Refusal}
use Rattle.least_key.specs.{declared.path.AnyPlaced.AnyPlaced}
use Rattle.net_report.specs.Headers.{fault_text, size_text, unsupported_text}
use Rattle.net_report.specs.Primitives.{bases_text, edges_text, sizes_text}
use Rattle.net_report.specs.Reports.{body_text, outcome_text, report_text}
use Rattle.net_report.specs.declared.outcome.OutcomeBody.TheVariants.{Unsupported, Malformed, Refused, Checked, Located, Keyed, Identified, Lines}
use Rattle.net_report.specs.declared.command.Command.TheVariants.{Check, Place, Key, Identify, Components}
use Rattle.net_report.specs.{Keys.key_text, Identified.found_names_text, Identified.sequences_text, Refusals.refused_text, Placements.placement_text}
use Rattle.net_report.specs.{declared.command.Command.Command, declared.outcome.Outcome.Outcome, declared.outcome.OutcomeBody.OutcomeBody}
use Rattle.net_report.specs.{declared.outcome.Size.Size}
use Rattle.cgd_read.specs.Views.{RawView, BodyView, Net, Other, Faulty, BlockView}
use Rattle.cgd_read.specs.Graphs.{graph_of}
use Rattle.coordination.{specs.Sequences.AreSequencesOf, proofs.CallerLemmas.one_list_of_sequences}
use Rattle.archive_text.specs.Entries.{EntryView}
use Rattle.net_archive.specs.Deciding.{AreNamesOf}
use Rattle.block_answers.specs.Texts.{answer_text, count_line, names_of, part_fault_text, part_line, parts_from}
use Rattle.block_answers.specs.Outcomes.{is_accepted_body, AreAcceptedInParts, AreAllAccepted, AreOutcomesFrom, IsAcceptedInParts, IsBodyOf, IsCheckedAs}
use Rattle.block_answers.specs.Outcomes.{IsDividedAs, IsGraphOf, IsIdentifiedAs, IsKeyedAs, IsLocatedAs, IsOutcomeOf, IsRefusedAs, MayTell, is_accepted}
use Rattle.block_answers.specs.ComponentLines.{IsAnswerOf, has_key, AreComponentsTold}
use Rattle.block_answers.specs.{ComponentLaws.OneTelling, Deciding.key_told, Laws.OneReport, Outcomes.net_told}

-- a graph with its key has no refusal that is reported
keyed_part_not_refused : (G : Graph) (n : KeyedNet) (r : Refusal) → n.placed.graph ≡ G → IsKeyed n → IsTrueOf G r → r ≡ NoMemory
keyed_part_not_refused G n r e k h = certain_is_not_refused n.placed.graph r k.is_graph (keyed_is_certain n k) (subst (λ F. IsTrueOf F r) (sym e) h)

module _ (names : List (List ℕ)) where
  -- the answers to two parts that look alike are the same
  one_answer : (p q : Part) (a b : Result AnyNet Refusal) → view_of p ≡ view_of q → IsGraph (graph_view p.graph) → IsAnswerOf p a → IsAnswerOf q b
      → (has_key a ≡ has_key b) × (answer_text names p a ≡ answer_text names q b)
  one_answer p q (Ok m) (Ok n) e g h k =
      let graph = ap (λ (v : PartView). v.graph) e in
      (refl, ap key_text (one_net (net_view m) (net_view n) h.1 k.1 (h.0 ∙ graph ∙ sym k.0)).key)
  one_answer p q (Ok m) (Err r) e g h k =
      let graph = ap (λ (v : PartView). v.graph) e in
      absurd (k.1 (keyed_part_not_refused (graph_view p.graph) (net_view m) r h.0 h.1 (subst (λ F. IsTrueOf F r) (sym graph) k.0)))
  one_answer p q (Err r) (Ok n) e g h k =
      let graph = ap (λ (v : PartView). v.graph) e in
      absurd (h.1 (keyed_part_not_refused (graph_view q.graph) (net_view n) r k.0 k.1 (subst (λ F. IsTrueOf F r) graph h.0)))
  one_answer p q (Err r) (Err s) e g h k =
      let graph = ap (λ (v : PartView). v.graph) e in let vertices = ap (λ (v : PartView). v.vertices) e in
      let refusal = one_refusal (graph_view p.graph) r s g h.0 (subst (λ F. IsTrueOf F s) (sym graph) k.0) h.1 k.1 in
      (refl, λ i. refused_text (names_of names (vertices i)) (refusal i))

  -- so do the answers to lists of such parts
  record PartsTellAlike (n : ℕ) (ps qs : List Part) (as' bs : List (Result AnyNet Refusal)) : Type 0 where
    count : length ps ≡ length qs
    accepted : list_all has_key as' ≡ list_all has_key bs
    text : parts_from names n ps as' ≡ parts_from names n qs bs

  alike : (n : ℕ) (ps qs : List Part) (as' bs : List (Result AnyNet Refusal)) → map view_of ps ≡ map view_of qs
      → All (λ (p : Part). IsGraph (graph_view p.graph)) ps
      → AreMatched IsAnswerOf ps as' → AreMatched IsAnswerOf qs bs → PartsTellAlike n ps qs as' bs
  alike n [] [] [] [] e g h k = record { count = refl; accepted = refl; text = refl }
  alike n [] [] [] (b ∷ bs) e g h k = absurd k
  alike n [] (q ∷ qs) as' bs e g h k = absurd (cc)
  alike n (p ∷ ps) [] as' bs e g h k = absurd (cc)
  alike n (p ∷ ps) (q ∷ qs) (a ∷ as') [] e g h k = absurd k
  alike n (p ∷ ps) (q ∷ qs) (a ∷ as') (b ∷ bs) e g h k =
      let view : view_of p ≡ view_of q = ap (λ (vs : List PartView). get_or vs 0 (view_of p)) e in
      let first = one_answer p q a b view (All-head (λ (p : Part). IsGraph (graph_view p.graph)) p ps g) h.0 k.0 in
      let rest = alike (n + 1) ps qs as' bs (ap (λ (vs : List PartView). drop 1 vs) e) (All-tail (λ (p : Part). IsGraph (graph_view p.graph)) p ps g) h.1 k.1 in
      record {
        count = ap suc rest.count;
        accepted = λ i. first.0 i && rest.accepted i;
        text = λ i. (part_line n (length (view i).vertices) (view i).copies ++ first.1 i) ++ rest.text i;
      }
  alike n ps qs as' bs e g h k = absurd h

-- the graph of each part is one
graphs : (G : Graph) → IsGraph G → (ps : List Part) → AreParts G ps → All (λ (p : Part). IsGraph (graph_view p.graph)) ps
graphs G g ps h k d l = grind (arith, part_graph)

-- what is reported of a graph is one
pub one_telling_of_parts : OneTelling
one_telling_of_parts G names x y s t g (inl a) (inl b) =
    let r = alike names 1 a.ps b.ps a.answers b.answers (answer_is_one.parts G g a.ps b.ps a.are_parts b.are_parts)
    (graphs G g a.ps a.are_parts) a.are_answers b.are_answers in
    (a.all ∙ r.accepted ∙ sym b.all, a.text ∙ (λ i. count_line (r.count i) ++ r.text i) ∙ sym b.text)
one_telling_of_parts G names x y s t g (inl a) (inr b) = absurd (b.some (answer_is_one.exclude G g a.ps b.told a.are_parts b.is_fault))
one_telling_of_parts G names x y s t g (inr a) (inl b) = absurd (a.some (answer_is_one.exclude G g b.ps a.told b.are_parts a.is_fault))
one_telling_of_parts G names x y s t g (inr a) (inr b) =
    let fault = answer_is_one.fault G g a.told b.told a.is_fault b.is_fault a.some b.some in
    (a.refused ∙ sym b.refused, a.text ∙ ap (λ f. part_fault_text names G.dimension f) fault ∙ sym b.text)

-- the names of the isomorphic entries are one list
one_list_of_names : (G : Graph) (es : List EntryView) (xs ys : List (List ℕ)) → AreNamesOf G es xs → AreNamesOf G es ys → xs ≡ ys
one_list_of_names G [] xs ys h k = h ∙ sym k
one_list_of_names G (e ∷ es) [] [] h k = refl
one_list_of_names G (e ∷ es) [] (y ∷ ys) h (inl k) = absurd (h.0 k.0)
one_list_of_names G (e ∷ es) [] (y ∷ ys) h (inr k) = one_list_of_names G es [] (y ∷ ys) h.1 k.1
one_list_of_names G (e ∷ es) (x ∷ xs) [] (inl h) k = absurd (k.0 h.0)
one_list_of_names G (e ∷ es) (x ∷ xs) [] (inr h) k = one_list_of_names G es (x ∷ xs) [] h.1 k.1
one_list_of_names G (e ∷ es) (x ∷ xs) (y ∷ ys) (inl h) (inl k) =
    let rest = one_list_of_names G es xs ys h.2 k.2 in
    λ i. (h.1 ∙ sym k.1) i ∷ rest i
one_list_of_names G (e ∷ es) (x ∷ xs) (y ∷ ys) (inl h) (inr k) = absurd (k.0 h.0)
one_list_of_names G (e ∷ es) (x ∷ xs) (y ∷ ys) (inr h) (inl k) = absurd (h.0 k.0)
one_list_of_names G (e ∷ es) (x ∷ xs) (y ∷ ys) (inr h) (inr k) = one_list_of_names G es (x ∷ xs) (y ∷ ys) h.1 k.1

-- two bodies have one text, and say one key and show alike whether the block was accepted
pub record SpeakAlike (a b : OutcomeBody) : Type 0 where
  pub text : body_text a ≡ body_text b
  pub accepted : is_accepted_body a ≡ is_accepted_body b
  pub key : key_told a ≡ key_told b

-- if components are asked for no refusal of the whole net is reported
none_of_components : (r : Refusal) → ¬ MayTell Components r
none_of_components r h = search arith

module _ (raw : RawView) where
  -- the graph of a block is one
  same_graph : (s t : Size) (G H : Graph) → IsGraphOf raw s G → IsGraphOf raw t H → G ≡ H
  same_graph s t G H a b = one_in_order (graph_of raw) G H a.in_order b.in_order

  same_size : (s t : Size) (G H : Graph) → IsGraphOf raw s G → IsGraphOf raw t H → s ≡ t
  same_size s t G H a b = a.size_is ∙ sym b.size_is

  -- running out of memory may not be reported
  told : (command : Command) (refusal : Refusal) → MayTell command refusal → refusal ≢ NoMemory
  told command refusal may e = subst (MayTell command) e may

  one_refused : (command : Command) (s t : Size) (ms ns : List (List ℕ)) (r q : Refusal) → IsRefusedAs command raw s ms r → IsRefusedAs command raw t ns q
      → SpeakAlike (Refused s ms r) (Refused t ns q)
  one_refused command s t ms ns r q a b =
      let graph = same_graph s t a.graph b.graph a.read b.read in
      let size = same_size s t a.graph b.graph a.read b.read in let names = a.names_are ∙ sym b.names_are in
      let refusal = one_refusal a.graph r q a.read.is_graph a.is_true (subst (λ G. IsTrueOf G q) (sym graph) b.is_true) (told command r a.may)
      (told command q b.may) in
      record { text = λ i. size_text (size i) ++ refused_text (names i) (refusal i); accepted = refl; key = refl }

  -- a connected net is not refused as if it were not
  checked_not_refused : (s t : Size) (ns : List (List ℕ)) (r : Refusal) → IsCheckedAs raw s → ¬ IsRefusedAs Check raw t ns r
  checked_not_refused s t ns r a b = by r b.is_true b.may
    where
      connected : IsConnected b.graph
      connected = subst IsConnected (same_graph s t a.graph b.graph a.read b.read) a.connected

      by : (r : Refusal) → IsTrueOf b.graph r → MayTell Check r → ⊥
      by (Disconnected split) h m = split_shows_not_connected b.graph (split_view split) b.read.is_graph h.1 connected
      by (Degenerate split) h m = split_shows_not_connected b.graph (split_view split) b.read.is_graph h.1 connected
      by r h m = m

  place_of : (r : Refusal) → MayTell Place r → IsOfPlacing r
  place_of r h = grind arith

  -- nor is a placed one
  located_not_refused : (s t : Size) (ms ns : List (List ℕ)) (p : AnyPlaced) (r : Refusal) → IsLocatedAs raw s ms p → ¬ IsRefusedAs Place raw t ns r
  located_not_refused s t ms ns p r a b =
      let placed = subst (λ G. IsPlacedAs G (placed_view p)) (same_graph s t a.graph b.graph a.read b.read) a.placed_as in
      told Place r b.may (placed_is_not_refused b.graph (placed_view p) r b.read.is_graph placed (place_of r b.may) b.is_true)

  -- nor one with a key
  keyed_not_refused : (command : Command) (t : Size) (ns : List (List ℕ)) (n : KeyedNet) (r : Refusal) → IsInOrder (graph_of raw) n.placed.graph
      → IsKeyed n → ¬ IsRefusedAs command raw t ns r
  keyed_not_refused command t ns n r o k b =
      let e = one_in_order (graph_of raw) n.placed.graph b.graph o b.read.in_order in
      told command r b.may (certain_is_not_refused n.placed.graph r k.is_graph (keyed_is_certain n k) (subst (λ G. IsTrueOf G r) (sym e) b.is_true))

  -- so a block with its key is accepted
  pub keyed_is_accepted : (entries : List EntryView) (n : KeyedNet) (body : OutcomeBody) → IsInOrder (graph_of raw) n.placed.graph → IsKeyed n
      → IsBodyOf entries Key (Net raw) body → is_accepted_body body ≡ true
  keyed_is_accepted entries n (Keyed s m) o k h = refl
  keyed_is_accepted entries n (Refused s ns r) o k h = absurd (keyed_not_refused Key s ns n r o k h)
  keyed_is_accepted entries n body o k h = absurd h

  keyed_as_not_refused : (command : Command) (s t : Size) (ns : List (List ℕ)) (n : AnyNet) (r : Refusal) → IsKeyedAs raw s n → ¬ IsRefusedAs command raw t ns r
  keyed_as_not_refused command s t ns n r a =
      keyed_not_refused command t ns (net_view n) r (subst (λ G. IsInOrder (graph_of raw) G) (sym a.net_is) a.read.in_order) a.keyed

  one_located : (s t : Size) (ms ns : List (List ℕ)) (p q : AnyPlaced) → IsLocatedAs raw s ms p → IsLocatedAs raw t ns q
      → SpeakAlike (Located s ms p) (Located t ns q)
  one_located s t ms ns p q a b =
      let graph = same_graph s t a.graph b.graph a.read b.read in
      let size = same_size s t a.graph b.graph a.read b.read in let names = a.names_are ∙ sym b.names_are in
      let placed = one_placed a.graph a.read.is_graph (placed_view p) (placed_view q) a.placed_as
      (subst (λ G. IsPlacedAs G (placed_view q)) (sym graph) b.placed_as) in
      record { text = λ i. size_text (size i) ++ placement_text (names i) (placed i); accepted = refl; key = refl }

  same_net : (s t : Size) (m n : AnyNet) → IsKeyedAs raw s m → IsKeyedAs raw t n → TellAlike (net_view m) (net_view n)
  same_net s t m n a b = one_net (net_view m) (net_view n) a.keyed b.keyed (a.net_is ∙ same_graph s t a.graph b.graph a.read b.read ∙ sym b.net_is)

  one_keyed : (s t : Size) (m n : AnyNet) → IsKeyedAs raw s m → IsKeyedAs raw t n → SpeakAlike (Keyed s m) (Keyed t n)
  one_keyed s t m n a b =
      let size = same_size s t a.graph b.graph a.read b.read in let net = same_net s t m n a b in
      record { text = λ i. size_text (size i) ++ key_text (net.key i); accepted = refl; key = ap (λ k. Some k) net.key }

  one_identified : (entries : List EntryView) (s t : Size) (us vs : List (List ℕ)) (m n : AnyNet) (xs ys ms ns : List (List ℕ))
      → IsIdentifiedAs entries raw s us m xs ms → IsIdentifiedAs entries raw t vs n ys ns
      → SpeakAlike (Identified s us m xs ms) (Identified t vs n ys ns)
  one_identified entries s t us vs m n xs ys ms ns a b =
      let graph = same_graph s t a.keyed.graph b.keyed.graph a.keyed.read b.keyed.read in
      let size = same_size s t a.keyed.graph b.keyed.graph a.keyed.read b.keyed.read in
      let net = same_net s t m n a.keyed b.keyed in let vertices = a.vertices_are ∙ sym b.vertices_are in
      let shells = one_list_of_sequences a.keyed.graph a.keyed.read.is_graph xs ys a.shells_are (subst (λ G. AreSequencesOf G ys) (sym graph) b.shells_are) in
      let names = one_list_of_names a.keyed.graph entries ms ns a.names_are (subst (λ G. AreNamesOf G entries ns) (sym graph) b.names_are) in
      record {
        text = λ i. size_text (size i) ++ ((placement_text (vertices i) (net.placed i)
            ++ (sizes_text (net.cell i).vertices (length (net.cell i).edges) ++ bases_text (net.cell i).dimension (net.basis i)
            ++ edges_text (net.cell i).dimension (net.cell i).edges)
            ++ key_text (net.key i)) ++ sequences_text 1 (shells i) ++ found_names_text (names i));
        accepted = refl;
        key = ap (λ k. Some k) net.key;
      }

  -- of its components one text is reported, and whether it was accepted is one
  divided_alike : (s t : Size) (x y : Bool) (xs ys : List ℕ) → IsDividedAs raw s x xs → IsDividedAs raw t y ys → (x ≡ y) × (xs ≡ ys)
  divided_alike s t x y xs ys a b =
      let graph = same_graph s t a.graph b.graph a.read b.read in
      one_telling_of_parts a.graph raw.names x y xs ys a.read.is_graph a.told (subst (λ G. AreComponentsTold G raw.names y ys) (sym graph) b.told)

  one_divided : (s t : Size) (x y : Bool) (xs ys : List ℕ) → IsDividedAs raw s x xs → IsDividedAs raw t y ys → SpeakAlike (Lines s xs) (Lines t ys)
  one_divided s t x y xs ys a b =
      let size = same_size s t a.graph b.graph a.read b.read in let told = divided_alike s t x y xs ys a b in
      record { text = λ i. size_text (size i) ++ told.1 i; accepted = refl; key = refl }

-- this is reported of a block if it is accepted: its net with its key
pub record IsToldNet (view : BodyView) (body : OutcomeBody) : Type 0 where
  pub net : AnyNet
  pub told_is : net_told body ≡ Some net
  pub raw : RawView
  pub graph : view ≡ Net raw
  pub read : IsInOrder (graph_of raw) (net_view net).placed.graph
  pub keyed : IsKeyed (net_view net)

pub told_net : (entries : List EntryView) (view : BodyView) (body : OutcomeBody) → IsBodyOf entries Key view body → is_accepted_body body ≡ true
    → IsToldNet view body
told_net entries (Net raw) (Keyed s n) h a =
    let read = subst (λ G. IsInOrder (graph_of raw) G) (sym h.net_is) h.read.in_order in
    record { net = n; told_is = refl; raw = raw; graph = refl; read = read; keyed = h.keyed }
told_net entries (Net raw) (Refused s ns r) h a = absurd (true≢false (sym a))
told_net entries (Other token) (Unsupported t) h a = absurd (true≢false (sym a))
told_net entries (Faulty fault) (Malformed f) h a = absurd (true≢false (sym a))
told_net entries view body h a = absurd h

-- what a command reports on a block is one
pub one_body : (entries : List EntryView) (command : Command) (body : BodyView) (a b : OutcomeBody) → IsBodyOf entries command body a
    → IsBodyOf entries command body b → SpeakAlike a b
one_body entries command (Other token) (Unsupported t) (Unsupported u) h k =
    record { text = λ i. unsupported_text ((h ∙ sym k) i); accepted = refl; key = refl }
one_body entries command (Other token) (Unsupported t) b h k = absurd k
one_body entries command (Faulty fault) (Malformed f) (Malformed g) h k = record { text = λ i. fault_text ((h ∙ sym k) i); accepted = refl; key = refl }
one_body entries command (Faulty fault) (Malformed f) b h k = absurd k
one_body entries command (Net raw) (Refused s ms r) (Refused t ns q) h k = one_refused raw command s t ms ns r q h k
one_body entries Check (Net raw) (Refused t ns r) (Checked s) h k = absurd (checked_not_refused raw s t ns r k h)
one_body entries Place (Net raw) (Refused t ns r) (Located s ms p) h k = absurd (located_not_refused raw s t ms ns p r k h)
one_body entries Key (Net raw) (Refused t ns r) (Keyed s n) h k = absurd (keyed_as_not_refused raw Key s t ns n r k h)
one_body entries Identify (Net raw) (Refused t ns r) (Identified s us n xs ms) h k = absurd (keyed_as_not_refused raw Identify s t ns n r k.keyed h)
one_body entries Components (Net raw) (Refused s ms r) b h k = absurd (none_of_components r h.may)
one_body entries command (Net raw) (Refused s ms r) b h k = absurd k
one_body entries Check (Net raw) (Checked s) (Refused t ns r) h k = absurd (checked_not_refused raw s t ns r h k)
one_body entries Check (Net raw) (Checked s) (Checked t) h k = record {
  text = λ i. size_text (same_size raw s t h.graph k.graph h.read k.read i)
      ++ codes "connected\n";
  accepted = refl;
  key = refl;
}
one_body entries Check (Net raw) (Checked s) b h k = absurd k
one_body entries Place (Net raw) (Located s ms p) (Refused t ns r) h k = absurd (located_not_refused raw s t ms ns p r h k)
one_body entries Place (Net raw) (Located s ms p) (Located t ns q) h k = one_located raw s t ms ns p q h k
one_body entries Place (Net raw) (Located s ms p) b h k = absurd k
one_body entries Key (Net raw) (Keyed s m) (Refused t ns r) h k = absurd (keyed_as_not_refused raw Key s t ns m r h k)
one_body entries Key (Net raw) (Keyed s m) (Keyed t n) h k = one_keyed raw s t m n h k
one_body entries Key (Net raw) (Keyed s m) b h k = absurd k
one_body entries Identify (Net raw) (Identified s us m xs ms) (Refused t ns r) h k = absurd (keyed_as_not_refused raw Identify s t ns m r h.keyed k)
one_body entries Identify (Net raw) (Identified s us m xs ms) (Identified t vs n ys ns) h k = one_identified raw entries s t us vs m n xs ys ms ns h k
one_body entries Identify (Net raw) (Identified s us m xs ms) b h k = absurd k
one_body entries Components (Net raw) (Lines s xs) (Lines t ys) h k = one_divided raw s t h.0 k.0 xs ys h.1 k.1
one_body entries Components (Net raw) (Lines s xs) (Refused t ns r) h k = absurd (none_of_components r k.may)
one_body entries Components (Net raw) (Lines s xs) b h k = absurd k
one_body entries command body a b h k = absurd h

-- two lists of outcomes say the same
pub record TellTheSame (os ps : List Outcome) : Type 0 where
  pub text : report_text os ≡ report_text ps
  pub accepted : map is_accepted os ≡ map is_accepted ps
  pub keys : map (λ (o : Outcome). key_told o.body) os ≡ map (λ (o : Outcome). key_told o.body) ps

-- an outcome has one text
one_text : (entries : List EntryView) (command : Command) (number : ℕ) (block : BlockView) (o p : Outcome) → IsOutcomeOf entries command number block o
    → IsOutcomeOf entries command number block p → outcome_text o ≡ outcome_text p
one_text entries command number block o p h k = grind (arith, one_body)

-- the outcomes of blocks say the same
pub one_telling : (entries : List EntryView) (command : Command) (n : ℕ) (bs : List BlockView) (os ps : List Outcome) → AreOutcomesFrom entries command n bs os
    → AreOutcomesFrom entries command n bs ps → TellTheSame os ps
one_telling entries command n [] [] [] h k = record { text = refl; accepted = refl; keys = refl }
one_telling entries command n [] [] (p ∷ ps) h k = absurd k
one_telling entries command n (b ∷ bs) (o ∷ os) [] h k = absurd k
one_telling entries command n (b ∷ bs) (o ∷ os) (p ∷ ps) h k =
    let first = one_text entries command n b o p h.0 k.0 in
    let body = one_body entries command b.body o.body p.body h.0.body k.0.body in
    let rest = one_telling entries command (n + 1) bs os ps h.1 k.1 in
    record {
      text = λ i. first i ++ rest.text i;
      accepted = λ i. body.accepted i ∷ rest.accepted i;
      keys = λ i. body.key i ∷ rest.keys i;
    }
one_telling entries command n bs os ps h k = absurd h

-- whether all are accepted is known from whether each is
all_of : (os : List Outcome) → list_all is_accepted os ≡ list_all (λ (b : Bool). b) (map is_accepted os)
all_of [] = refl
all_of (o ∷ os) = ap (λ b. is_accepted o && b) (all_of os)

pub all_alike : (os ps : List Outcome) → TellTheSame os ps → list_all is_accepted os ≡ list_all is_accepted ps
all_alike os ps r = all_of os ∙ ap (list_all (λ (c : Bool). c)) r.accepted ∙ sym (all_of ps)

-- whether a block whose components are reported was accepted is one
one_in_parts : (entries : List EntryView) (body : BodyView) (a b : OutcomeBody) (x y : Bool) → IsBodyOf entries Components body a
    → IsBodyOf entries Components body b → IsAcceptedInParts body a x → IsAcceptedInParts body b y → x ≡ y
one_in_parts entries (Net raw) (Lines s xs) (Lines t ys) x y h k p q = (divided_alike raw s t x y xs ys p q).0
one_in_parts entries (Net raw) (Lines s xs) (Refused t ns r) x y h k p q = absurd (none_of_components r k.may)
one_in_parts entries (Net raw) (Lines s xs) b x y h k p q = absurd k
one_in_parts entries (Net raw) (Refused t ns r) b x y h k p q = absurd (none_of_components r h.may)
one_in_parts entries (Net raw) a b x y h k p q = absurd h
one_in_parts entries body a b x y h k p q = p ∙ sym q

-- so it is of each of them
each_in_parts : (entries : List EntryView) (n : ℕ) (bs : List BlockView) (os ps : List Outcome) (xs ys : List Bool)
    → AreOutcomesFrom entries Components n bs os → AreOutcomesFrom entries Components n bs ps
    → AreAcceptedInParts bs os xs → AreAcceptedInParts bs ps ys → xs ≡ ys
each_in_parts entries n [] [] [] [] [] h k p q = refl
each_in_parts entries n [] [] [] (x ∷ xs) ys h k p q = absurd p
each_in_parts entries n [] [] (r ∷ ps) xs ys h k p q = absurd k
each_in_parts entries n [] (o ∷ os) ps xs ys h k p q = absurd h
each_in_parts entries n (b ∷ bs) [] ps xs ys h k p q = absurd h
each_in_parts entries n (b ∷ bs) (o ∷ os) [] xs ys h k p q = absurd k
each_in_parts entries n (b ∷ bs) (o ∷ os) (r ∷ ps) [] ys h k p q = absurd p
each_in_parts entries n (b ∷ bs) (o ∷ os) (r ∷ ps) (x ∷ xs) (y ∷ ys) h k p q =
    let first = one_in_parts entries b.body o.body r.body x y h.0.body k.0.body p.0 q.0 in
    let rest = each_in_parts entries (n + 1) bs os ps xs ys h.1 k.1 p.1 q.1 in
    λ i. first i ∷ rest i
each_in_parts entries n bs os ps xs ys h k p q = absurd q

-- and so whether all were accepted is one
all_one : (entries : List EntryView) (command : Command) (bs : List BlockView) (os ps : List Outcome) (x y : Bool) → AreOutcomesFrom entries command 1 bs os
    → AreOutcomesFrom entries command 1 bs ps → TellTheSame os ps
    → AreAllAccepted command bs os x → AreAllAccepted command bs ps y → x ≡ y
all_one entries command bs os ps x y l s t u v = grind (arith, each_in_parts, all_alike)

-- the report on blocks is one
pub one_report : OneReport
one_report command entries blocks x y s t a b = grind (arith, one_telling, all_one)
