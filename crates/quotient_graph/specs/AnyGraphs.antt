-- A graph of either dimension, as the graph that it stands for.
use Rattle.periodic_net.specs.Graph.{Graph}
use Rattle.quotient_graph.specs.declared.any_graph.AnyGraph.{AnyGraph}
use Rattle.quotient_graph.specs.declared.any_graph.AnyGraph.TheVariants.{Flat, Space}

-- the graph, of dimension 2 or 3
abbrev pub graph_view : AnyGraph → Graph
graph_view (Flat g) = g
graph_view (Space g) = g
