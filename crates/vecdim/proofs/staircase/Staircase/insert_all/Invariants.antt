use Rattle.std.proofs.Common.{drop}
use Rattle.vecdim.specs.{Stairs.Stairs, Lattices.Members, Lattices.IsWith}
use Rattle.vecdim.proofs.staircase.Staircase.insert_all.Given as goal

-- what the vectors that are left make of the lattice, all of them make of the first
abbrev pub invariant-loop-v : goal.invariant-loop-v
invariant-loop-v g l = (T : Stairs) → IsWith (Members g.row.D l.self) (drop l.v-index l.vs) (Members g.row.D T)
    → IsWith (Members g.row.D l.initial.self) l.vs (Members g.row.D T)
