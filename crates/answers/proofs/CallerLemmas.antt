-- The lemmas of this crate that other crates cite.
pub use Rattle.answers.proofs.Endings.{few_endings}
pub use Rattle.answers.proofs.Headlines.{headline_on}
pub use Rattle.answers.proofs.OneAnswer.{one_due_answer}
