-- What is due to `same` is one; the nets of blocks that are accepted.
use Rattle.std.proofs.Common.{◌≡◌, ℕ, ◌≤◌, List, [], ◌∷◌, sym, subst, ◌∙◌, arith, ◌+◌, length, true, Option, refl, true≢false, ◌&&◌, ◌-◌, false, ap}
use Rattle.std.{proofs.lemmas.Bool.and_parts, proofs.lemmas.List.Elements.All-head, proofs.lemmas.List.Elements.All-tail}
use Rattle.std.{specs.List.list_all, specs.Prelude.All}
use Rattle.periodic_net.specs.{Graph.Graph, Limits.IsSmall, Limits.most_vertices}
use Rattle.least_key.specs.{KeyedNets.KeyedNet, AnyNets.net_view, declared.net.Net.Net as NetInMemory}
use Rattle.net_certificate.specs.NetItems.{AreItemsOf, AreMapsOf, IsItemOf, images_in, item_by}
use Rattle.net_certificate.{specs.Texts.maps_text, specs.Items.ItemView, specs.Items.Maps, proofs.CallerLemmas.one_answer_alike}
use Rattle.cgd_read.specs.Views.{RawView, BodyView, BlockView, block_view, body_view, views}
use Rattle.cgd_read.specs.{Blocks.IsReadBody, Graphs.graph_of, declared.block.Block.Block}
use Rattle.quotient_graph.{specs.Stars.IsInOrder, proofs.Edges.reordered_small, proofs.CallerLemmas.one_in_order}
use Rattle.archive_text.specs.Entries.{EntryView}
use Rattle.net_report.specs.declared.{command.Command.TheVariants.Key, status.Status.TheVariants.Done, status.Status.TheVariants.SomeRefused}
use Rattle.block_answers.specs.{Outcomes.Outcome, Outcomes.AreOutcomesFrom, Outcomes.IsBodyOf, Outcomes.is_accepted, Reports.IsReport}
use Rattle.block_answers.proofs.CallerLemmas.{keyed_is_accepted, one_report, read_graph, told_net}
use Rattle.map_answers.specs.{Nets.AreNetsOf, Nets.IsNetOf, Due.AreMapped, Laws.OneSameness, Steps.nets_told, Steps.with_net}

-- a graph in order is within the limits if the graph is
small_in_order : (G H : Graph) → IsInOrder G H → IsSmall G → IsSmall H
small_in_order G H o s =
    let t = reordered_small G.dimension G.vertices G.edges H.edges o.edges (record { vertices = s.vertices; edges = s.edges; shifts = s.shifts }) in
    record { vertices = subst (λ (n : ℕ). n ≤ most_vertices) (sym o.vertices) t.vertices; edges = t.edges; shifts = t.shifts }

-- the nets that are reported of accepted blocks are those of the blocks
pub nets_of_blocks : (entries : List EntryView) (n : ℕ) (found : List Block) (os : List Outcome) → All (λ (b : Block). IsReadBody b.body) found
    → AreOutcomesFrom entries Key n (views found) os → list_all is_accepted os ≡ true → AreNetsOf (views found) (nets_told os)
nets_of_blocks entries n [] [] read h a = tt
nets_of_blocks entries n (b ∷ found) (o ∷ os) read h a =
    let tests = and_parts (is_accepted o) (list_all is_accepted os) a in
    let t = told_net entries (body_view b.body) o.body h.0.body tests.0 in
    let graph = read_graph b.body t.raw (All-head (λ (x : Block). IsReadBody x.body) b found read) t.graph in
    let small = small_in_order (graph_of t.raw) (net_view t.net).placed.graph t.read graph.small in
    let first : IsNetOf (block_view b) (net_view t.net) = record { raw = t.raw; graph = t.graph; read = t.read; small = small; keyed = t.keyed } in
    let rest = nets_of_blocks entries (n + 1) found os (All-tail (λ (x : Block). IsReadBody x.body) b found read) h.1 tests.1 in
    subst (λ (told : Option NetInMemory). AreNetsOf (views (b ∷ found)) (with_net told (nets_told os))) (sym t.told_is) (first, rest)
nets_of_blocks entries n found os read h a = absurd h

-- there are as many outcomes as blocks
pub as_many : (entries : List EntryView) (n : ℕ) (bs : List BlockView) (os : List Outcome) → AreOutcomesFrom entries Key n bs os → length os ≡ length bs
as_many entries n [] [] h = refl
as_many entries n (b ∷ bs) (o ∷ os) h = let e = as_many entries (n + 1) bs os h.1 in omega (arith, e)
as_many entries n bs os h = absurd h

-- the graph of the net of a block is one
same_graph : (block : BlockView) (m n : KeyedNet) → IsNetOf block m → IsNetOf block n → m.placed.graph ≡ n.placed.graph
same_graph block m n a b =
    let raw : b.raw ≡ a.raw = cc in
    one_in_order (graph_of a.raw) m.placed.graph n.placed.graph a.read (subst (λ (r : RawView). IsInOrder (graph_of r) n.placed.graph) raw b.read)

-- nets with the same graphs, one by one
abbrev HaveSameGraphs : List KeyedNet → List KeyedNet → Type 0
HaveSameGraphs [] [] = Unit {0}
HaveSameGraphs (m ∷ ms) (n ∷ ns) = (m.placed.graph ≡ n.placed.graph) × HaveSameGraphs ms ns
HaveSameGraphs ms ns = ⊥

-- so it is with the nets of blocks
nets_alike : (bs : List BlockView) (ms ns : List KeyedNet) → AreNetsOf bs ms → AreNetsOf bs ns → HaveSameGraphs ms ns
nets_alike [] [] [] a b = tt
nets_alike [] (m ∷ ms) ns a b = absurd a
nets_alike (c ∷ bs) [] ns a b = absurd a
nets_alike (c ∷ bs) (m ∷ ms) (n ∷ ns) a b = (same_graph c m n a.0 b.0, nets_alike bs ms ns a.1 b.1)
nets_alike bs ms ns a b = absurd b

-- the item of a net is one
one_item : (first first' : KeyedNet) (room : ℕ) (m n : KeyedNet) (x y : ItemView) → first.placed.graph ≡ first'.placed.graph
    → m.placed.graph ≡ n.placed.graph → IsItemOf first room m x → IsItemOf first' room n y → x ≡ y
one_item first first' room m n x y e f a b =
    let answer = one_answer_alike first first' m n room a.answer b.answer e f a.is_answer b.is_answer in
    a.item_is ∙ (λ i. item_by (f i) (answer i)) ∙ sym b.item_is

-- the items of nets are one list
one_items : (first first' : KeyedNet) (room : ℕ) (ms ns : List KeyedNet) (xs ys : List ItemView) → first.placed.graph ≡ first'.placed.graph
    → HaveSameGraphs ms ns → AreItemsOf first room ms xs → AreItemsOf first' room ns ys → xs ≡ ys
one_items first first' room [] [] [] [] e s a b = refl
one_items first first' room [] [] (x ∷ xs) ys e s a b = absurd a
one_items first first' room [] (n ∷ ns) xs ys e s a b = absurd s
one_items first first' room (m ∷ ms) [] xs ys e s a b = absurd s
one_items first first' room (m ∷ ms) (n ∷ ns) [] ys e s a b = absurd a
one_items first first' room (m ∷ ms) (n ∷ ns) (x ∷ xs) (y ∷ ys) e s a b =
    let item = one_item first first' room m n x y e s.0 a.0 b.0 in
    let later = subst (λ (z : ItemView). AreItemsOf first' (room - images_in z) ns ys) (sym item) b.1 in
    let rest = one_items first first' (room - images_in x) ms ns xs ys e s.1 a.1 later in
    λ i. item i ∷ rest i
one_items first first' room ms ns xs ys e s a b = absurd b

-- the maps from the first net to the others are one
one_maps : (ms ns : List KeyedNet) (x y : Option Maps) → HaveSameGraphs ms ns → AreMapsOf ms x → AreMapsOf ns y → x ≡ y
one_maps ms ns x y h k l = search (arith, one_items)

-- if blocks have their nets all are accepted
all_told : (n : ℕ) (bs : List BlockView) (ns : List KeyedNet) (os : List Outcome) → AreNetsOf bs ns → AreOutcomesFrom [] Key n bs os
    → list_all is_accepted os ≡ true
all_told n [] ns [] a h = refl
all_told n (b ∷ bs) [] (o ∷ os) a h = absurd a
all_told n (b ∷ bs) (net ∷ ns) (o ∷ os) a h =
    let told = subst (λ (view : BodyView). IsBodyOf [] Key view o.body) a.0.graph h.0.body in
    let here = keyed_is_accepted a.0.raw [] net o.body a.0.read a.0.keyed told in
    let rest = all_told (n + 1) bs ns os a.1 h.1 in
    λ i. here i && rest i
all_told n bs ns os a h = absurd h

-- a report that some block is not accepted is none if all are
mapped_or_reported : (bs : List BlockView) (s t : List ℕ) → AreMapped bs s → ¬ IsReport Key [] bs false t
mapped_or_reported bs s t a r = true≢false (sym (all_told 1 bs a.nets r.outcomes a.are_nets r.are_outcomes.each) ∙ sym r.all)

-- what is due is one
pub one_sameness : OneSameness
one_sameness bs Done Done x y a b =
    let maps = one_maps a.nets b.nets a.told.maps b.told.maps (nets_alike bs a.nets b.nets a.are_nets b.are_nets) a.told.are_maps b.told.are_maps in
    (refl, a.told.text_is ∙ ap maps_text maps ∙ sym b.told.text_is)
one_sameness bs Done SomeRefused x y a b = absurd (mapped_or_reported bs x y a b)
one_sameness bs SomeRefused Done x y a b = absurd (mapped_or_reported bs y x b a)
one_sameness bs SomeRefused SomeRefused x y a b = (refl, (one_report Key [] bs false false x y a b).1)
one_sameness bs Done other x y a b = absurd b
one_sameness bs SomeRefused other x y a b = absurd b
one_sameness bs status other x y a b = absurd a
