use Rattle.std.proofs.Common.{◌≡◌, ◌++◌, drop}
use Rattle.archive_text.specs.Entries.{entry_views}
use Rattle.archive_answers.specs.ArchiveTexts.{group_names}
use Rattle.archive_answers.proofs.archive_texts.push_group_names.Given as goal

abbrev pub invariant-loop-number : goal.invariant-loop-number
invariant-loop-number l =
    l.text.items ++ group_names (entry_views l.entries) (drop l.number-index l.group) ≡ l.initial.text.items ++ group_names (entry_views l.entries) l.group
