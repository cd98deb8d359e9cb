use Rattle.std.proofs.Common.{◌*◌, ◌^◌, lit<, lit≤}
use Rattle.integers.proofs.vectors.Bounds.{wider}
use Rattle.primitive_cell.specs.PrimitiveCells.{most_move}
use Rattle.primitive_cell.proofs.edges.coordinates.Goals as goal

pub to_vector-requires : goal.to_vector-requires
to_vector-requires g c =
    let within = wider (2 * most_move) (2 ^ 61) (lit≤ tt) c.coordinates.result (c.coordinates.ensures.within most_move c.requires.small) in
    (lit< tt, (within, c.coordinates.ensures.dimension))
