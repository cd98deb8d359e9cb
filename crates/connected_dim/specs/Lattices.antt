-- The lattice of closed walks of full rank.
use Rattle.std.specs.Prelude.{ℕ, ℤ, List}
use Rattle.integers.specs.Vectors.{Vector}
use Rattle.periodic_net.specs.Graph.{Graph}
use Rattle.periodic_net.specs.Split.{ClosedShift}
use Rattle.vecdim.specs.Stairs.{Stairs}
use Rattle.vecdim.specs.Lattices.{Members, AreMultiples, IsWith}

-- the rows of the multiples of m and of these vectors
pub record IsLatticeOf (d : ℕ) (m : ℤ) (vs : List Vector) (S : Stairs) : Type 0 where
  pub start : Stairs
  pub multiples : AreMultiples d m (Members d start)
  pub with : IsWith (Members d start) vs (Members d S)

-- the members are exactly the shifts of closed walks from vertex a
pub record AreClosedWalks (G : Graph) (a : ℕ) (S : Stairs) : Type 0 where
  pub out : (v : Vector) → Members G.dimension S v → ClosedShift G a v
  pub into : (v : Vector) → ClosedShift G a v → Members G.dimension S v
