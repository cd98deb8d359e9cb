use Rattle.std.proofs.Common.{take}
use Rattle.integers.specs.Vectors.{Vector}
use Rattle.vecdim.specs.Lattices.{Members}
use Rattle.primitive_cell.specs.Lattices.{AreInside}
use Rattle.primitive_cell.proofs.lattice.insert_arcs.Given as goal

abbrev pub invariant-loop-arc : goal.invariant-loop-arc
invariant-loop-arc g l =
    ((v : Vector) → Members g.row.D l.initial.lattice v → Members g.row.D l.lattice v) × AreInside g.row.D l.lattice (take l.arc-index l.arcs)
