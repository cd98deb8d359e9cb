use Rattle.std.proofs.Common.{lit<, List, sym, subst}
use Rattle.periodic_net.specs.{Graph.IsGraph, Graph.Arc, Limits.IsSmall}
use Rattle.quotient_graph.specs.{Order.AreRising, Stars.graph_with}
use Rattle.quotient_graph.proofs.Edges.{listed_flat, listed_graph, listed_small}
use Rattle.quotient_graph.proofs.any_graph.graph_from_edges.Goals as goal

pub edges_of-requires : goal.edges_of-requires
edges_of-requires g c = (lit< tt, listed_flat g.row.D c.args.n c.args.edges.now c.requires)

pub with_edges-requires : goal.with_edges-requires
with_edges-requires g c =
    let d = g.row.D in let es = c.args.edges.now in let same = sym c.in_ok-edges.ensures in
    let is_graph = subst (λ (as' : List Arc). IsGraph (graph_with d c.args.n as')) same (listed_graph d c.args.n es c.requires) in
    let small = subst (λ (as' : List Arc). IsSmall (graph_with d c.args.n as')) same (listed_small d c.args.n es c.requires) in
    (lit< tt, (lit< tt, (is_graph, (small, subst AreRising same c.requires.rising))))
