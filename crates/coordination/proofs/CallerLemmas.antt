-- The lemmas of this crate that other crates cite.
pub use Rattle.coordination.proofs.ClassShells.{one_list_of_sequences, class_met, one_numbering}
