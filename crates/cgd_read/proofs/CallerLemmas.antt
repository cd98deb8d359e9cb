-- The lemmas of this crate that other crates cite.
pub use Rattle.cgd_read.proofs.Graphs.{small_part, IsWellEdge, well_spelled, edges_well, edges_different, size_now}
pub use Rattle.cgd_read.proofs.{Spelling.IsZero, Spelling.normal_spelled, FieldLists.flat_tokens}
pub use Rattle.cgd_read.proofs.Units.{none_true, all_false, one_true, from_start, the_unit, only_unit}
