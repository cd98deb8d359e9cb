-- Of `read_counted`: the clause `rest`.
use Rattle.std.proofs.Common.{[], ◌∷◌, ◌++◌}
use Rattle.line_text.specs.{Faults.IfBadLine, Lines.IsAt}
use Rattle.archive_text.specs.Parts.{Keyed, end_part, part_rows}
use Rattle.archive_text.specs.Reading.{NoCount, HasShells, HasBadShells, HasWhole, HasBadLine}
use Rattle.archive_text.specs.{declared.version.Version.TheVariants.Two, Rows.row_lines, Rows.count_row, Forms.IsCount}
use Rattle.line_text.proofs.CallerLemmas.{at_none, at_some, bad_line_from, result_from}
use Rattle.archive_text.proofs.BadLines.{bad_count, bad_shells, whole_shells, counted_heads}
use Rattle.archive_text.proofs.rest.read_counted.Goals as goal

pub returns-in_default-clause-rest : goal.returns-in_default-clause-rest
returns-in_default-clause-rest c = λ text rows name s edges key keyed at. bad_count text rows name s edges key c.args.lines.now c.number-line.result keyed at
    c.number-line.ensures.number (at_none c.in_ok-count.field-0 (NoCount c.args.lines.now.rest) c.in_default.is c.in_ok-count.ensures.none)

pub returns-clause-rest : goal.returns-clause-rest
returns-clause-rest c = λ text rows name s edges key keyed at.
    let n = c.in-Some.count in
    let count = at_some c.in_ok-count.field-0 IsCount n c.in-Some.is c.in_ok-count.ensures.form in
    let counted = at_some c.in_ok-count.field-0
    (λ m. IsAt text ((rows ++ row_lines (part_rows (Keyed name s edges key))) ++ count_row m ∷ []) c.next_count.new.lines) n c.in-Some.is
    (c.in_ok-count.ensures.place text (rows ++ row_lines (part_rows (Keyed name s edges key))) at) in
    result_from c.read_lists.result (λ lists. HasShells text (counted_heads rows name s edges key n) n lists c.read_lists.new.lines)
    (λ lists. HasWhole Two text rows (end_part Two name s edges key lists) c.read_lists.new.lines)
    (IfBadLine (HasBadShells text (counted_heads rows name s edges key n) n)) (IfBadLine (HasBadLine Two text rows name))
    (λ lists has. whole_shells text rows name s edges key n lists c.read_lists.new.lines keyed count has)
    (λ fault. bad_line_from fault (HasBadShells text (counted_heads rows name s edges key n) n) (HasBadLine Two text rows name)
    (λ line bad. bad_shells text rows name s edges key n line keyed count bad))
    (c.read_lists.ensures.shells text (counted_heads rows name s edges key n) counted)
