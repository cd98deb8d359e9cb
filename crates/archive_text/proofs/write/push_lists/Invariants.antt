use Rattle.std.proofs.Common.{◌≡◌, ◌+◌, ◌++◌, drop}
use Rattle.line_text.specs.Lines.{rows_text}
use Rattle.archive_text.specs.{Rows.row_lines, Parts.shells_rows}
use Rattle.archive_text.proofs.write.push_lists.Given as goal

abbrev pub invariant-loop-done : goal.invariant-loop-done
invariant-loop-done l = l.text.items ++ rows_text (row_lines (shells_rows (l.done + 1) (drop l.done l.lists))) ≡ l.initial.text.items
    ++ rows_text (row_lines (shells_rows 1 l.lists))
