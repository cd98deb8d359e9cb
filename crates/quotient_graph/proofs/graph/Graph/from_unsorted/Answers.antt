use Rattle.std.proofs.Common.{◌≡◌, ◌∙◌, List, ap, map, subst, sym}
use Rattle.periodic_net.specs.Graph.{Arc}
use Rattle.quotient_graph.specs.Building.{AreStars, spelled_in}
use Rattle.quotient_graph.specs.Stars.{graph_with, IsGraphInMemory, IsInOrder}
use Rattle.quotient_graph.proofs.Spelled.{read_off}
use Rattle.quotient_graph.proofs.graph.Graph.from_unsorted.Goals as goal

pub invariant_of-result : goal.invariant_of-result
invariant_of-result g c =
    let stars = map (λ s. s.items) c.in_ok-stars.stars.items in
    let lists = subst (λ es. AreStars c.args.n es stars) c.deref.ensures.value c.in_ok-stars.ensures in
    let known = read_off g.row.D c.args.n c.args.edges.items stars c.requires.is_graph c.requires.small lists in
    let same : c.in_ok-edges.edges.items ≡ spelled_in stars =
    c.in_ok-edges.ensures ∙ ap (λ xs. spelled_in (map (λ s. s.items) xs)) c.deref-2.ensures.value in
    subst (λ (es : List Arc). IsGraphInMemory (graph_with g.row.D c.args.n es) stars) (sym same) known.memory

pub returns : goal.returns
returns g c =
    let stars = map (λ s. s.items) c.in_ok-stars.stars.items in
    let lists = subst (λ es. AreStars c.args.n es stars) c.deref.ensures.value c.in_ok-stars.ensures in
    let known = read_off g.row.D c.args.n c.args.edges.items stars c.requires.is_graph c.requires.small lists in
    let same : c.in_ok-edges.edges.items ≡ spelled_in stars =
    c.in_ok-edges.ensures ∙ ap (λ xs. spelled_in (map (λ s. s.items) xs)) c.deref-2.ensures.value in
    subst (λ (es : List Arc). IsInOrder (graph_with g.row.D c.args.n c.args.edges.items) (graph_with g.row.D c.args.n es)) (sym same) known.order
