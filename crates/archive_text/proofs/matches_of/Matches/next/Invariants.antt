use Rattle.std.proofs.Common.{◌≡◌, length}
use Rattle.archive_text.specs.{Entries.entry_views, Lookups.entries_at, Lookups.names_with}
use Rattle.archive_text.proofs.matches_of.Matches.next.Given as goal

abbrev pub invariant-loop-self : goal.invariant-loop-self
invariant-loop-self l =
    names_with l.self-inside.key.now (entries_at (entry_views l.self-inside.entries.now) l.self-inside.places.now)
    ≡ names_with l.initial.self-inside.key.now (entries_at (entry_views l.initial.self-inside.entries.now) l.initial.self-inside.places.now)

abbrev pub decreases-loop-self : goal.decreases-loop-self
decreases-loop-self l = length l.self-inside.places.now
