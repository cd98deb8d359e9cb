use Rattle.net_certificate.specs.Rows.{end_row}
use Rattle.net_certificate.proofs.tables.next_end.Goals as goal

pub returns-clause-place : goal.returns-clause-place
unfolding end_row
returns-clause-place c = λ text rows at yes_. c.next_is.ensures.place text rows at yes_

pub returns-clause-none : goal.returns-clause-none
unfolding end_row
returns-clause-none c = λ rest e. c.next_is.ensures.every rest e
