use Rattle.std.proofs.Common.{ℕ, ◌≤◌, ◌<◌}
use Rattle.quotient_graph.specs.ClassNets.{arcs_of}
use Rattle.primitive_cell.specs.Lattices.{AreInside}
use Rattle.primitive_cell.proofs.lattice.arc_lattice.Given as goal

abbrev pub invariant-loop-c : goal.invariant-loop-c
invariant-loop-c g l = (c : ℕ) → 1 ≤ c → c < l.c → AreInside g.row.D l.lattice (arcs_of l.net c)
