use Rattle.std.proofs.Common.{◌+◌, ◌*◌}
use Rattle.net_cover.specs.Covers.{AreGiven}
use Rattle.net_cover.proofs.lifting.push_lifts.Given as goal

-- the edges at the places before, and this edge at the remainders before
abbrev pub invariant-loop-start : goal.invariant-loop-start
invariant-loop-start g l = AreGiven g.row.D l.cell.rows l.lattice l.edges (l.m * l.index + l.start) l.given.items
