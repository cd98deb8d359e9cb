-- The lemmas of this crate that other crates cite.
pub use Rattle.quotient_graph.proofs.Stars.{LeaveFrom, stars_are_arcs, every_arc_from}
pub use Rattle.quotient_graph.proofs.Edges.{in_order_iso, one_in_order, same_arc}
pub use Rattle.quotient_graph.proofs.Positions.{position_bounded, position_fits}
