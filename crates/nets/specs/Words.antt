-- The words of the crates below that the contracts of this one use, passed on to callers.
pub use Rattle.cgd_lex.specs.Limits.{longest_text}
pub use Rattle.periodic_net.specs.Graph.{Graph, IsGraph}
pub use Rattle.periodic_net.specs.Limits.{IsSmall}
pub use Rattle.periodic_net.specs.Maps.{BareIso, Iso}
pub use Rattle.cgd_read.specs.Spelling.{edge_of}
pub use Rattle.quotient_graph.specs.Stars.{IsInOrder, graph_with}
pub use Rattle.least_key.specs.AnyNets.{net_view}
pub use Rattle.least_key.specs.KeyedNets.{IsKeyed}
pub use Rattle.least_key.specs.Truths.{IsTrueOf}
pub use Rattle.net_archive.specs.Deciding.{AreBareNamesOf, AreNamesOf}
