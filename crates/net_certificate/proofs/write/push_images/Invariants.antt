use Rattle.std.proofs.Common.{◌≡◌, ◌++◌, drop}
use Rattle.line_text.specs.Lines.{rows_text}
use Rattle.net_certificate.specs.{Rows.row_lines, Texts.image_rows}
use Rattle.net_certificate.proofs.write.push_images.Given as goal

abbrev pub invariant-loop-i : goal.invariant-loop-i
invariant-loop-i l = l.text.items ++ rows_text (row_lines (image_rows l.dim l.other l.m l.i (drop l.i l.images))) ≡ l.initial.text.items
    ++ rows_text (row_lines (image_rows l.dim l.other l.m 0 l.images))
