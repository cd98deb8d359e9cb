-- The numbers of vertices up to a lattice.
use Rattle.std.specs.Prelude.{◌≡◌, ℕ, ◌+◌, ◌-◌, ◌*◌}
use Rattle.vecdim.specs.Stairs.{Stairs, size_of}
use Rattle.sublattice.specs.Remainders.{HasNumber}
use Rattle.periodic_net.specs.Graph.{Vertex}

-- n is the number of the vertex x up to the lattice: by its number, and then by the remainder of its cell
pub record IsImageNumber (d : ℕ) (S : Stairs) (x : Vertex) (n : ℕ) : Type 0 where
  pub number : ℕ
  pub of_cell : HasNumber d S x.cell number
  pub is : n ≡ (x.over - 1) * size_of S + number
