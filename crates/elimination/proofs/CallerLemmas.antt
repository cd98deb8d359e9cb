-- The lemmas of this crate that other crates cite.
pub use Rattle.elimination.proofs.ArcSums.{few_arcs, near_step}
pub use Rattle.elimination.proofs.Inverses.{good_inverses, connected_quotient, never_without_inverse}
pub use Rattle.elimination.proofs.Firsts.{dimension_three}
pub use Rattle.elimination.proofs.Loops.{get_pushed}
pub use Rattle.elimination.proofs.Solved.{from_one, solved}
pub use Rattle.elimination.proofs.Elimination.{position_cancels, IsLevel}
