-- The lemmas of this crate that other crates cite.
pub use Rattle.residue.proofs.Classes.{residue_small}
