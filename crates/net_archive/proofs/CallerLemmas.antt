-- The lemmas of this crate that other crates cite.
pub use Rattle.net_archive.proofs.IsoGroups.{keys_decide_archive, stand_together, names_found, permuted_archive}
pub use Rattle.net_archive.proofs.NewEntry.{entry_no_fault, one_entry_fault, added_no_fault, one_add_fault, one_entry}
pub use Rattle.net_archive.proofs.OneFault.{no_fault_but_memory, one_archive, one_fault}
