-- The lemmas of this crate that other crates cite.
pub use Rattle.archive_text.proofs.Walks.{IsFormedEntry, end_follows, entries_walk, entry_walk, part_walk, walk_on, Walk, part_with, row_none, same_row_of}
pub use Rattle.archive_text.proofs.Walks.{Cut, EntriesGoOn, cut_from, entry_cut, part_cut, said, shown, GoOn, go_on, name_none, same_name}
pub use Rattle.archive_text.proofs.BadLines.{lines_of_sum}
pub use Rattle.archive_text.proofs.Regrouping.{is_regrouped}
