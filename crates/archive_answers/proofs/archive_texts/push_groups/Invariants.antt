use Rattle.std.proofs.Common.{◌≡◌, ◌++◌, drop}
use Rattle.coordination.specs.Sequences.{numbers_in}
use Rattle.archive_text.specs.Entries.{entry_views}
use Rattle.archive_answers.specs.ArchiveTexts.{group_lines}
use Rattle.archive_answers.proofs.archive_texts.push_groups.Given as goal

abbrev pub invariant-loop-group : goal.invariant-loop-group
invariant-loop-group l =
    l.text.items ++ group_lines (entry_views l.entries) (numbers_in (drop l.group-index l.groups)) ≡ l.initial.text.items
    ++ group_lines (entry_views l.entries) (numbers_in l.groups)
