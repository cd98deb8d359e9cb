use Rattle.std.proofs.Common.{◌≡◌, map, take}
use Rattle.integers.specs.Vectors.{vector}
use Rattle.connected_dim.specs.Flat.{flat_colour}
use Rattle.connected_dim.proofs.flat.flat_colours.Given as goal

abbrev pub invariant-loop-walk : goal.invariant-loop-walk
invariant-loop-walk g l = l.h.items ≡ map (flat_colour (vector l.c.x l.c.y l.c.z)) (take l.walk-index l.found)
