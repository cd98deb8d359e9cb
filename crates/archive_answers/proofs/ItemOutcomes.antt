-- What is reported of an item: the graph of its key, the names that were found, the list of outcomes, and that it is one.
use Rattle.std.proofs.Common.{◌≡◌, ℕ, suc, zero, ◌<◌, ◌≤◌, List, [], ◌∷◌, length, get_or, refl, ap, arith, ◌≢◌, sym, subst, ◌∙◌, ◌+◌, ◌++◌, ◌&&◌}
use Rattle.std.{specs.List.slice_get, specs.List.list_all, proofs.lemmas.List.length-map, proofs.lemmas.List.Sorted.length_permutation}
use Rattle.archive_text.specs.{Entries.entry_views, declared.entry.Entry.Entry}
use Rattle.periodic_net.specs.Graph.{Graph, IsGraph}
use Rattle.keyline_import.specs.Views.{IsBodyOf, AreRead, IsItemRead}
use Rattle.keyline_import.specs.Items.{BodyView, Net, Faulty as FaultyView, ItemView}
use Rattle.keyline_import.specs.{Keys.graph_of_key, Rows.KeyView, declared.item.ItemBody.TheVariants.Graph as ItemGraph, declared.item.Item.Item}
use Rattle.quotient_graph.{specs.AnyGraphs.graph_view, specs.declared.any_graph.AnyGraph.AnyGraph, specs.Stars.IsInOrder, proofs.CallerLemmas.one_in_order}
use Rattle.least_key.proofs.CallerLemmas.{certain_is_not_refused, keyed_is_certain, one_net, one_refusal}
use Rattle.least_key.specs.{AnyNets.net_view, KeyedNets.IsKeyed, declared.net.Net.Net as AnyNet, Truths.IsTrueOf, declared.refusal.Refusal.Refusal}
use Rattle.least_key.specs.{declared.refusal.Refusal.TheVariants.NoMemory}
use Rattle.net_report.specs.declared.outcome.OutcomeBody.TheVariants.{Keyed, Refused, Faulty}
use Rattle.net_report.specs.Headers.{faulty_text, header_text, size_text}
use Rattle.net_report.specs.Reports.{body_text, outcome_text, report_text}
use Rattle.net_report.specs.{declared.outcome.OutcomeBody.OutcomeBody, declared.outcome.Outcome.Outcome, declared.outcome.Size.Size, Keys.key_text}
use Rattle.net_report.specs.{Refusals.refused_text}
use Rattle.archive_answers.specs.Outcomes.{IsGraphOf, IsItemBodyOf, size_of, AreItemOutcomesFrom, IsItemOutcomeOf, IsKeyedAs, IsRefusedAs}
use Rattle.net_report.specs.{Accepting.is_accepted, Accepting.is_accepted_body, Headers.size_in}
use Rattle.archive_answers.specs.{ArchiveTexts.name_of, ItemLaws.OneItemReport}

-- the name of the entry at this place
pub name_there : (items : List Entry) (i : ℕ) (x : Entry) → i < length items → x ≡ get_or items i x → x.name.items ≡ name_of (slice_get (entry_views items) i)
name_there [] i x l is = absurd (omega (arith, l))
name_there (y ∷ items) zero x l is = ap (λ (z : Entry). z.name.items) is
name_there (y ∷ items) (suc i) x l is = name_there items i x (omega (arith, l)) is

-- past the entries there is no name
pub no_name : (items : List Entry) (i : ℕ) → length items ≤ i → [] ≡ name_of (slice_get (entry_views items) i)
no_name [] i l = refl
no_name (y ∷ items) zero l = absurd (omega (arith, l))
no_name (y ∷ items) (suc i) l = no_name items i (omega (arith, l))

-- a graph with the edges of a key in order has the sizes of the key
same_sizes : (key : KeyView) (G : Graph) (repeats : ℕ) → IsInOrder (graph_of_key key) G → repeats ≡ key.repeats → size_in G repeats ≡ size_of key
same_sizes key G repeats o r = search (arith, length_permutation, length-map)

module _ (graph : AnyGraph) (repeats : ℕ) (size : Size) (sizes : size ≡ size_in (graph_view graph) repeats) (g : IsGraph (graph_view graph)) where
  -- it is the graph of the key
  graph_read : (key : KeyView) → IsInOrder (graph_of_key key) (graph_view graph) × (repeats ≡ key.repeats) → IsGraphOf key size (graph_view graph)
  graph_read key b = record { size_is = sizes ∙ same_sizes key (graph_view graph) repeats b.0 b.1; in_order = b.0; is_graph = g }

  -- a net with its key is reported of the item
  pub keyed_as : (net : AnyNet) → (net_view net).placed.graph ≡ graph_view graph → IsKeyed (net_view net) → (view : BodyView)
      → IsBodyOf view (ItemGraph graph repeats) → IsItemBodyOf view (Keyed size net)
  keyed_as net is keyed (Net key) b = record { graph = graph_view graph; read = graph_read key b; net_is = is; keyed = keyed }
  keyed_as net is keyed (FaultyView fault) b = absurd b

  refused_told : (refusal : Refusal) → IsTrueOf (graph_view graph) refusal → refusal ≢ NoMemory → (view : BodyView) → IsBodyOf view (ItemGraph graph repeats)
      → IsItemBodyOf view (Refused size [] refusal)
  refused_told refusal t known (Net key) b = record { graph = graph_view graph; read = graph_read key b; no_names = refl; known = known; is_true = t }
  refused_told refusal t known (FaultyView fault) b = absurd b

  -- so is a refusal
  pub refused_as : (refusal : Refusal) (body : OutcomeBody) → IsTrueOf (graph_view graph) refusal → body ≡ Refused size [] refusal → refusal ≢ NoMemory
      → (view : BodyView) → IsBodyOf view (ItemGraph graph repeats) → IsItemBodyOf view body
  refused_as refusal body t e known view b = subst (IsItemBodyOf view) (sym e) (refused_told refusal t known view b)

-- these are the outcomes of whatever items were read as those in memory
abbrev pub AreOutcomesOfRead : ℕ → List Item → List Outcome → Type 0
AreOutcomesOfRead number items os = (views : List ItemView) → AreRead views items → AreItemOutcomesFrom number views os

-- no item was read, and none is reported
pub outcomes_none : AreOutcomesOfRead 1 [] []
outcomes_none [] read = tt
outcomes_none (view ∷ views) read = absurd read

-- the items that were read before the last one, and that one
record AreReadThen (views : List ItemView) (items : List Item) (item : Item) : Type 0 where
  front : List ItemView
  last : ItemView
  whole : views ≡ front ++ last ∷ []
  count : length front ≡ length items
  before : AreRead front items
  now : IsItemRead last item

read_then : (views : List ItemView) (items : List Item) (item : Item) → AreRead views (items ++ item ∷ []) → AreReadThen views items item
read_then (view ∷ []) [] item h = record { front = []; last = view; whole = refl; count = refl; before = tt; now = h.0 }
read_then (view ∷ other ∷ views) [] item h = absurd h.1
read_then (view ∷ views) (x ∷ items) item h =
    let r = read_then views items item h.1 in
    record {
      front = view ∷ r.front;
      last = r.last;
      whole = ap (λ (vs : List ItemView). view ∷ vs) r.whole;
      count = let c = r.count in omega (arith, c);
      before = (h.0, r.before);
      now = r.now;
    }
read_then [] [] item h = absurd h
read_then [] (x ∷ items) item h = absurd h

-- one more item and its outcome at the end
outcomes_last : (n : ℕ) (views : List ItemView) (os : List Outcome) (view : ItemView) (o : Outcome) → AreItemOutcomesFrom n views os
    → IsItemOutcomeOf (n + length views) view o
    → AreItemOutcomesFrom n (views ++ view ∷ []) (os ++ o ∷ [])
outcomes_last n [] [] view o h k = (subst (λ m. IsItemOutcomeOf m view o) (omega arith) k, tt)
outcomes_last n (v ∷ views) (x ∷ os) view o h k =
    let further : n + length (v ∷ views) ≡ (n + 1) + length views = omega arith in
    (h.0, outcomes_last (n + 1) views os view o h.1 (subst (λ m. IsItemOutcomeOf m view o) further k))
outcomes_last n views os view o h k = absurd h

-- the outcome of the next item
pub outcomes_more : (items : List Item) (os : List Outcome) (number : ℕ) (item : Item) (o : Outcome) → AreOutcomesOfRead 1 items os → number ≡ length items + 1
    → ((view : ItemView) → IsItemRead view item → IsItemOutcomeOf number view o) → AreOutcomesOfRead 1 (items ++ item ∷ []) (os ++ o ∷ [])
outcomes_more items os number item o h n k views read = grind (arith, read_then, outcomes_last)

-- two bodies have one text, and say alike whether the item was accepted
record SpeakAlike (a b : OutcomeBody) : Type 0 where
  text : body_text a ≡ body_text b
  accepted : is_accepted_body a ≡ is_accepted_body b

module _ (key : KeyView) where
  same_graph : (s t : Size) (G H : Graph) → IsGraphOf key s G → IsGraphOf key t H → G ≡ H
  same_graph s t G H a b = one_in_order (graph_of_key key) G H a.in_order b.in_order

  one_refused : (s t : Size) (ms ns : List (List ℕ)) (r q : Refusal) → IsRefusedAs key s ms r → IsRefusedAs key t ns q
      → SpeakAlike (Refused s ms r) (Refused t ns q)
  one_refused s t ms ns r q a b =
      let graph = same_graph s t a.graph b.graph a.read b.read in
      let size = a.read.size_is ∙ sym b.read.size_is in let names = a.no_names ∙ sym b.no_names in
      let refusal = one_refusal a.graph r q a.read.is_graph a.is_true (subst (λ G. IsTrueOf G q) (sym graph) b.is_true) a.known b.known in
      record { text = λ i. size_text (size i) ++ refused_text (names i) (refusal i); accepted = refl }

  -- a net with a key is not refused
  keyed_not_refused : (s t : Size) (n : AnyNet) (ns : List (List ℕ)) (r : Refusal) → IsKeyedAs key s (net_view n) → ¬ IsRefusedAs key t ns r
  keyed_not_refused s t n ns r a b =
      let graph = a.net_is ∙ same_graph s t a.graph b.graph a.read b.read in
      b.known (certain_is_not_refused (net_view n).placed.graph r a.keyed.is_graph (keyed_is_certain (net_view n) a.keyed)
      (subst (λ G. IsTrueOf G r) (sym graph) b.is_true))

  one_keyed : (s t : Size) (m n : AnyNet) → IsKeyedAs key s (net_view m) → IsKeyedAs key t (net_view n) → SpeakAlike (Keyed s m) (Keyed t n)
  one_keyed s t m n a b =
      let size = a.read.size_is ∙ sym b.read.size_is in
      let net = one_net (net_view m) (net_view n) a.keyed b.keyed (a.net_is ∙ same_graph s t a.graph b.graph a.read b.read ∙ sym b.net_is) in
      record { text = λ i. size_text (size i) ++ key_text (net.key i); accepted = refl }

-- what is reported of an item is one
one_body : (body : BodyView) (a b : OutcomeBody) → IsItemBodyOf body a → IsItemBodyOf body b → SpeakAlike a b
one_body (Net key) (Keyed s m) (Keyed t n) h k = one_keyed key s t m n h k
one_body (Net key) (Keyed s m) (Refused t ns r) h k = absurd (keyed_not_refused key s t m ns r h k)
one_body (Net key) (Keyed s m) b h k = absurd k
one_body (Net key) (Refused s ms r) (Keyed t n) h k = absurd (keyed_not_refused key t s n ms r k h)
one_body (Net key) (Refused s ms r) (Refused t ns q) h k = one_refused key s t ms ns r q h k
one_body (Net key) (Refused s ms r) b h k = absurd k
one_body (FaultyView fault) (Faulty l n kind) (Faulty m p other) h k =
    let line = h.line_is ∙ sym k.line_is in let number = h.number_is ∙ sym k.number_is in
    let name = h.kind_is ∙ sym k.kind_is in
    record { text = λ i. faulty_text (line i) (number i) (name i); accepted = refl }
one_body (FaultyView fault) (Faulty l n kind) b h k = absurd k
one_body body a b h k = absurd h

-- an outcome has one text
one_text : (number : ℕ) (item : ItemView) (o p : Outcome) → IsItemOutcomeOf number item o → IsItemOutcomeOf number item p → outcome_text o ≡ outcome_text p
one_text number item o p h k =
    let n = h.number_is ∙ sym k.number_is in let line = h.line ∙ sym k.line in
    let name = h.name ∙ sym k.name in let body = (one_body item.body o.body p.body h.body k.body).text in
    λ i. header_text (n i) (line i) (name i) ++ body i

-- two lists of outcomes have one text, and say alike whether all items were accepted
record TellAlike (os ps : List Outcome) : Type 0 where
  text : report_text os ≡ report_text ps
  accepted : list_all is_accepted os ≡ list_all is_accepted ps

-- the outcomes of items say the same
one_telling : (n : ℕ) (items : List ItemView) (os ps : List Outcome) → AreItemOutcomesFrom n items os → AreItemOutcomesFrom n items ps → TellAlike os ps
one_telling n [] [] [] h k = record { text = refl; accepted = refl }
one_telling n [] [] (p ∷ ps) h k = absurd k
one_telling n (item ∷ items) (o ∷ os) [] h k = absurd k
one_telling n (item ∷ items) (o ∷ os) (p ∷ ps) h k =
    let first = one_text n item o p h.0 k.0 in
    let body = one_body item.body o.body p.body h.0.body k.0.body in
    let rest = one_telling (n + 1) items os ps h.1 k.1 in
    record { text = λ i. first i ++ rest.text i; accepted = λ i. body.accepted i && rest.accepted i }
one_telling n items os ps h k = absurd h

-- the report on items is one
pub one_item_report : OneItemReport
one_item_report items x y s t a b = search (arith, one_telling)
