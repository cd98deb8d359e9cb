-- The lemmas of this crate that other crates cite.
pub use Rattle.archive_union.proofs.OneUnion.{not_both, same_item, same_union}
pub use Rattle.archive_union.proofs.Unions.{has_all}
