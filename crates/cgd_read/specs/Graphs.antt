-- The graph that was read, as a graph of the subject.
use Rattle.std.specs.Prelude.{length, map, ◌-◌, List}
use Rattle.periodic_net.specs.Graph.{Graph, IsGraph}
use Rattle.periodic_net.specs.Limits.{IsSmall}
use Rattle.cgd_read.specs.Lines.{FieldsView}
use Rattle.cgd_read.specs.Edges.{vertices_of, edges_of, first_size, repeats_of}
use Rattle.cgd_read.specs.Views.{RawView}
use Rattle.cgd_read.specs.Spelling.{edge_of}

-- what these rows say, the nearest first: a row is two vertices and then a part of the shift for each dimension
abbrev pub net_of : List FieldsView → RawView
net_of rows = record { dim = first_size rows - 2; names = vertices_of rows; edges = edges_of rows; repeats = repeats_of rows }

-- the quotient graph with the vertices and edges that were read; the vertices have the numbers of their names
abbrev pub graph_of : RawView → Graph
graph_of raw = record { dimension = raw.dim; vertices = length raw.names; edges = map edge_of raw.edges }

-- a graph as it may be read: a quotient graph within the limits
pub record IsReadGraph (raw : RawView) : Type 0 where
  pub is_graph : IsGraph (graph_of raw)
  pub small : IsSmall (graph_of raw)
