-- The lemmas of this crate that other crates cite.
pub use Rattle.sublattice.proofs.Numbers.{box_vector, box_number, number_below, vector_there, vectors_rise, tell_classes, factors_small}
pub use Rattle.sublattice.proofs.Residues.{SameResidue, member_of_residue, residue_of_member, residue_once, HasPivots, residue, DifferBy, IsAny}
pub use Rattle.sublattice.proofs.Rows.{combination_group, rows_flat, rows_span, Undoing, undoing}
pub use Rattle.sublattice.proofs.RowNumbers.{pivots_multiply, shape_pivots, any_last, class_numbers, flat_part}
pub use Rattle.sublattice.proofs.{Numbers.remainders_numbered, Numbers.residue_of, Residues.stair_numbers}
