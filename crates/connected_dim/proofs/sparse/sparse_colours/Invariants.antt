use Rattle.std.proofs.Common.{◌≡◌, map, take}
use Rattle.connected_dim.specs.Sparse.{sparse_colour}
use Rattle.connected_dim.proofs.sparse.sparse_colours.Given as goal

abbrev pub invariant-loop-walk : goal.invariant-loop-walk
invariant-loop-walk g l = l.h.items ≡ map (sparse_colour l.d.q l.d.c) (take l.walk-index l.found)
