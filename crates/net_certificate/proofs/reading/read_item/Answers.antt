use Rattle.std.proofs.Common.{[], ◌∷◌, ◌++◌, subst, arith}
use Rattle.line_text.specs.Lines.{IsAt}
use Rattle.net_certificate.specs.Rows.{OfReason, OfMap, row_line}
use Rattle.net_certificate.specs.{Pairs.heading_row, Pairs.IsToldHeading, Stages.Listed, Stages.drawing}
use Rattle.net_certificate.proofs.Places.{no_pair, row_in, bad_in}
use Rattle.net_certificate.proofs.reading.read_item.Goals as goal

pub returns-in-Some-Reason : goal.returns-in-Some-Reason
returns-in-Some-Reason c = λ text items edges whole at_k is.
    row_in text (Listed (drawing c.args.first.now edges) items) (OfReason c.args.k c.in-Some-Reason.why) c.args.lines.now c.next_heading.new.lines is
    (whole, (at_k, omega (arith, c.ranges.k.fits)), subst IsToldHeading c.in-Some-Reason.field-0-is c.in-Some-Reason.ensures.form)
    (λ rows at. subst (λ h. IsAt text (rows ++ row_line (heading_row c.args.k h) ∷ []) c.next_heading.new.lines) c.in-Some-Reason.field-0-is
    (c.in-Some-Reason.ensures.place text rows at))

pub returns-in-Some-Map : goal.returns-in-Some-Map
returns-in-Some-Map c = λ text items edges whole at_k is. c.read_pair.ensures text items edges
    (row_in text (Listed (drawing c.args.first.now edges) items) (OfMap c.args.k) c.args.lines.now c.next_heading.new.lines is
    (whole, (at_k, omega (arith, c.ranges.k.fits)))
    (λ rows at. subst (λ h. IsAt text (rows ++ row_line (heading_row c.args.k h) ∷ []) c.next_heading.new.lines) c.in-Some-Map.field-0-is
    (c.in-Some-Map.ensures.place text rows at)))

pub returns-in-None : goal.returns-in-None
returns-in-None c = λ text items edges whole at_k is. bad_in text (Listed (drawing c.args.first.now edges) items) c.args.lines.now c.number-line.result is
    c.number-line.ensures.number
    (no_pair (drawing c.args.first.now edges) items c.args.k c.args.lines.now.rest whole at_k c.in-None.ensures.none) (λ may. c.requires.left)
