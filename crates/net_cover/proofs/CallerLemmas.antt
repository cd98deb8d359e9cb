-- The lemmas of this crate that other crates cite.
pub use Rattle.net_cover.proofs.CellRows.{coefficients_once, index_positive}
pub use Rattle.net_cover.proofs.CoverNet.{lift_point, covers_are_isomorphic, shift_once}
pub use Rattle.net_cover.proofs.CoverMade.{cover_made, given_within, none_given, one_given}
pub use Rattle.net_cover.proofs.OneCover.{one_cover, cover_is_not_refused, one_cover_fault, cover_edge, cover_vertices, one_lattice}
