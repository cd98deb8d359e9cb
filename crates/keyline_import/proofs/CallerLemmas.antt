-- The lemmas of this crate that other crates cite.
pub use Rattle.keyline_import.proofs.ItemLists.{nets_are_named}
