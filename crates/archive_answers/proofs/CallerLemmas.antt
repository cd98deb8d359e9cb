-- The lemmas of this crate that other crates cite.
pub use Rattle.archive_answers.proofs.Unions.{not_bad, one_archive_in, one_bad, many_items, one_union_due}
