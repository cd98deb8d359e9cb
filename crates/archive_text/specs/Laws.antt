-- What regrouping keeps, and that only one list is a regrouping of another.
use Rattle.std.specs.Prelude.{◌≡◌, List}
use Rattle.archive_text.specs.Entries.{EntryView}
use Rattle.archive_text.specs.Regrouped.{regrouped, IsRegrouping}

-- the regrouped list has the same entries; those with one key stand together, in their old order, and the groups in the order of their
-- first entries
abbrev pub EntriesAreRegrouped : Type 0
EntriesAreRegrouped = (entries : List EntryView) → IsRegrouping entries (regrouped entries)

-- and no other list is a regrouping
abbrev pub OneRegrouping : Type 0
OneRegrouping = (old new : List EntryView) → IsRegrouping old new → new ≡ regrouped old
