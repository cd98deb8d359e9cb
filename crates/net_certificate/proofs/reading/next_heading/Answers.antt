use Rattle.std.proofs.{Common.sym, Common.◌∙◌, Common.arith, lemmas.Option.none-some}
use Rattle.line_text.proofs.CallerLemmas.{none_from}
use Rattle.net_certificate.specs.{Rows.row_line, Pairs.heading_text, Pairs.heading_row, Pairs.NoPair}
use Rattle.net_certificate.proofs.RowForms.{heading_left, heading_line, heading_none}
use Rattle.net_certificate.proofs.reading.next_heading.Goals as goal

pub returns-in-Some-after_pair-clause-none : goal.returns-in-Some-after_pair-clause-none
returns-in-Some-after_pair-clause-none c = none_from c.heading_of.result (NoPair c.args.k c.args.lines.now.rest) (λ none h rest told e.
    let line = (c.in-Some.ensures.every (row_line (heading_row c.args.k h)) rest (heading_none c.args.k h (omega (arith, c.ranges.k.fits)) told) e).0 in
    none-some h (sym none ∙ c.heading_of.ensures.every h told
    (heading_left c.in-Some.line.now c.in-Some-after_pair.text.now c.args.k h c.in-Some-after_pair.ensures line)))

pub returns-in-None-after_pair-clause-none : goal.returns-in-None-after_pair-clause-none
returns-in-None-after_pair-clause-none c = λ h rest told e.
    let line = (c.in-Some.ensures.every (row_line (heading_row c.args.k h)) rest (heading_none c.args.k h (omega (arith, c.ranges.k.fits)) told) e).0 in
    c.in-None-after_pair.ensures (heading_text h) (line ∙ heading_line c.args.k h)

pub returns-in-None-clause-none : goal.returns-in-None-clause-none
returns-in-None-clause-none c = λ h rest told e. c.in-None.ensures.every (row_line (heading_row c.args.k h)) rest
    (heading_none c.args.k h (omega (arith, c.ranges.k.fits)) told) e
