use Rattle.std.proofs.Common.{map, subst}
use Rattle.quotient_graph.{specs.Stars.graph_with, specs.Building.AreStars, proofs.Edges.is_in_memory}
use Rattle.quotient_graph.proofs.graph.Graph.with_edges.Goals as goal

pub invariant_of-result : goal.invariant_of-result
invariant_of-result g c =
    is_in_memory (graph_with g.row.D c.args.n c.args.edges.items) (map (λ s. s.items) c.in_ok-stars.stars.items) c.requires.is_graph c.requires.small
    c.requires.rising
    (subst (λ es. AreStars c.args.n es (map (λ s. s.items) c.in_ok-stars.stars.items)) c.deref.ensures.value c.in_ok-stars.ensures)
