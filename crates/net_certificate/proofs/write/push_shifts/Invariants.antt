use Rattle.std.proofs.Common.{◌≡◌, ◌++◌, drop, map}
use Rattle.line_text.specs.Lines.{rows_text}
use Rattle.net_certificate.specs.Rows.{OfBase, row_lines}
use Rattle.net_certificate.proofs.write.push_shifts.Given as goal

abbrev pub invariant-loop-v : goal.invariant-loop-v
invariant-loop-v l = l.text.items ++ rows_text (row_lines (map (OfBase l.other) (drop l.v-index l.base))) ≡ l.initial.text.items
    ++ rows_text (row_lines (map (OfBase l.other) l.base))
