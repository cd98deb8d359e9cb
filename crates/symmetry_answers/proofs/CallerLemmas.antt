-- The lemmas of this crate that other crates cite.
pub use Rattle.symmetry_answers.proofs.OneSymmetry.{one_symmetry}
