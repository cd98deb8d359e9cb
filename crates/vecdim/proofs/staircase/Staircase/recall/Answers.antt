use Rattle.std.proofs.Common.{subst}
use Rattle.integers.specs.Staircase.{IsStaircase}
use Rattle.vecdim.specs.Lattices.{Members}
use Rattle.vecdim.proofs.staircase.Staircase.recall.Goals as goal

pub returns-clause-basis : goal.returns-clause-basis
returns-clause-basis g c = subst (IsStaircase (Members g.row.D c.args.self.now) g.row.D) c.rows.ensures.rows c.rows.ensures.basis
