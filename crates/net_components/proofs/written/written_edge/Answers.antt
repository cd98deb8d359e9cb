-- Of `written_edge`: the clause `wide`; what `shift_in` and `number_of` require.
use Rattle.std.proofs.Common.{◌≤◌, ℕ, List, length, lit<, sym, ap, subst, ◌∙◌}
use Rattle.std.{proofs.lemmas.Int.to_z-of_z, specs.Int.w128}
use Rattle.periodic_net.specs.{Graph.Arc, Graph.arc, Limits.most_vertices}
use Rattle.vecdim.specs.Lattices.{Members}
use Rattle.connected_dim.specs.Generators.{generator_of}
use Rattle.integers.specs.Vectors.{HasDimension}
use Rattle.net_components.proofs.MadeParts.{among, few, from, to, step, head, member, wide_at}
use Rattle.net_components.specs.Shifts.{IsWideAt}
use Rattle.net_components.proofs.written.written_edge.Goals as goal

pub shift_in-k-requires : goal.shift_in-k-requires
shift_in-k-requires g c =
    let G = c.args.g.now in let k = c.recall.ensures in let e = c.args.e.now in let C = c.args.c.now in
    let h = c.requires.component in let i = c.requires.edge in let some = c.requires.tail in
    let is_from = from G k.is_graph k.small C h e i some in
    let is_to = to G k.is_graph k.small C h e i some in let within = step G k.is_graph k.small C h e i some in
    let is_member = subst (λ d. Members d C.stairs (generator_of C.found e)) k.parameter (member G k.is_graph k.small C h e i some) in
    (lit< tt, (lit< tt, (h.walks.within, (is_from, (is_to, (within, is_member))))))

pub number_of-u-requires-clause-among : goal.number_of-u-requires-clause-among
number_of-u-requires-clause-among g c =
    let G = c.args.g.now in let k = c.recall.ensures in let C = c.args.c.now in
    let low = from G k.is_graph k.small C c.requires.component c.args.e.now c.requires.edge c.requires.tail in
    rw (c.requires.vertices, ap (λ (a : Arc). a.from) c.e.view_is) (among C.found c.args.e.now.from low.0 low.1 c.requires.tail)

pub number_of-u-requires-clause-few : goal.number_of-u-requires-clause-few
number_of-u-requires-clause-few g c =
    let k = c.recall.ensures in
    subst (λ (us : List ℕ). length us ≤ most_vertices) (sym c.requires.vertices) (few c.args.g.now k.is_graph k.small c.args.c.now c.requires.component)

pub number_of-v-requires-clause-among : goal.number_of-v-requires-clause-among
number_of-v-requires-clause-among g c =
    let G = c.args.g.now in let k = c.recall.ensures in let C = c.args.c.now in let e = c.args.e.now in
    let high = to G k.is_graph k.small C c.requires.component e c.requires.edge c.requires.tail in
    rw (c.requires.vertices, ap (λ (a : Arc). a.to) c.e.view_is)
    (among C.found e.to high.0 high.1 (head G k.is_graph k.small C c.requires.component e c.requires.edge c.requires.tail))

pub number_of-v-requires-clause-few : goal.number_of-v-requires-clause-few
number_of-v-requires-clause-few g c =
    let k = c.recall.ensures in
    subst (λ (us : List ℕ). length us ≤ most_vertices) (sym c.requires.vertices) (few c.args.g.now k.is_graph k.small c.args.c.now c.requires.component)

pub returns-in-Some-clause-wide : goal.returns-in-Some-clause-wide
returns-in-Some-clause-wide g c =
    let G = c.args.g.now in let k = c.recall.ensures in
    let flat = subst (λ d. HasDimension d c.shift_in-k.result) (sym k.parameter) c.shift_in-k.ensures.dimension in
    let w = wide_at G k.is_graph k.small c.args.c.now c.requires.component c.args.e.now c.requires.edge c.requires.tail c.shift_in-k.result flat
    c.shift_in-k.ensures.sum c.in-Some.w.c c.in-Some.w.value c.in-Some.ensures.some in (
      (λ i. arc c.e.inside.from c.e.inside.to (c.to_triple.ensures.value i)) ∙ c.e.view_is,
      subst (IsWideAt G c.args.c.now.root c.args.e.now c.in-Some.w.c) (sym (to_z-of_z w128 c.in-Some.w.value c.in-Some.ensures.fits)) w,
    )
