use Rattle.std.proofs.Common.{sym}
use Rattle.vecdim.proofs.Stairway.{lent_rows}
use Rattle.vecdim.proofs.staircase.Staircase.rows.Goals as goal

pub returns-clause-basis : goal.returns-clause-basis
returns-clause-basis g c = let i = c.self.invariant in rw (sym c.self.view_is) (lent_rows g.row.D i.0 i.1 i.2 i.3 i.4).basis

pub returns-clause-small : goal.returns-clause-small
returns-clause-small g c = let i = c.self.invariant in (lent_rows g.row.D i.0 i.1 i.2 i.3 i.4).small

pub returns-clause-spans : goal.returns-clause-spans
returns-clause-spans g c = let i = c.self.invariant in rw (sym c.self.view_is) (lent_rows g.row.D i.0 i.1 i.2 i.3 i.4).spans
