use Rattle.std.proofs.Common.{lit<, sym, subst, List}
use Rattle.periodic_net.specs.{Graph.Arc, Graph.IsGraph, Limits.IsSmall}
use Rattle.quotient_graph.{specs.Stars.graph_with, proofs.Edges.flat_edges}
use Rattle.quotient_graph.proofs.any_graph.graph_from.Goals as goal

pub edges_of-requires : goal.edges_of-requires
edges_of-requires g c = (lit< tt, flat_edges g.row.D c.args.n c.args.edges.now c.requires.is_graph)

pub from_unsorted-requires : goal.from_unsorted-requires
from_unsorted-requires g c =
    let same = sym c.in_ok-edges.ensures in
    let is_graph = subst (λ (es : List Arc). IsGraph (graph_with g.row.D c.args.n es)) same c.requires.is_graph in
    (lit< tt, (lit< tt, (is_graph, subst (λ (es : List Arc). IsSmall (graph_with g.row.D c.args.n es)) same c.requires.small)))
