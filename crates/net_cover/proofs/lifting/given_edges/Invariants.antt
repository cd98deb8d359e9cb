use Rattle.std.proofs.Common.{◌*◌}
use Rattle.net_cover.specs.Covers.{AreGiven}
use Rattle.net_cover.proofs.lifting.given_edges.Given as goal

-- the edges at the places before
abbrev pub invariant-loop-m : goal.invariant-loop-m
invariant-loop-m g l = AreGiven g.row.D l.cell.rows l.lattice l.edges (l.m * l.index) l.given.items
