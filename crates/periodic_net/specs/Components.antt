-- The vertices of a quotient graph that walks from a vertex lead to.
use Rattle.std.specs.Prelude.{◌≡◌, ℕ}
use Rattle.integers.specs.Vectors.{Vector, zero_vector}
use Rattle.periodic_net.specs.Graph.{Graph, IsQuotientVertex}
use Rattle.periodic_net.specs.Split.{WalkShift}

-- u is in the component of a
pub record InComponent (G : Graph) (a u : ℕ) : Type 0 where
  pub vertex : IsQuotientVertex G u
  pub shift : Vector
  pub walk : WalkShift G a u shift

-- to each vertex of the component of a the shift of one walk from a
pub record TellsWalks (G : Graph) (a : ℕ) (T : ℕ → Vector) : Type 0 where
  pub start : T a ≡ zero_vector
  pub walks : (u : ℕ) → InComponent G a u → WalkShift G a u (T u)
