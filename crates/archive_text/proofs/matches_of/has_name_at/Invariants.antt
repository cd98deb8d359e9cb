use Rattle.std.{proofs.Common.◌≡◌, proofs.Common.length, specs.List.list_any, specs.Str.bytes_eq}
use Rattle.archive_text.specs.{Entries.entry_views, Lookups.entries_at, Lookups.names_of}
use Rattle.archive_text.proofs.matches_of.has_name_at.Given as goal

abbrev pub invariant-loop-left : goal.invariant-loop-left
invariant-loop-left l =
    list_any (bytes_eq l.name) (names_of (entries_at (entry_views l.entries) l.places)) ≡ list_any (bytes_eq l.name)
    (names_of (entries_at (entry_views l.entries) l.left))

abbrev pub decreases-loop-left : goal.decreases-loop-left
decreases-loop-left l = length l.left
