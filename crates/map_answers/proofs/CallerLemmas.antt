-- The lemmas of this crate that other crates cite.
pub use Rattle.map_answers.proofs.Sameness.{one_sameness, as_many}
pub use Rattle.map_answers.proofs.Verified.{one_verification}
