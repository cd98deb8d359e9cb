-- How many copies a component has in the net.
use Rattle.std.specs.Prelude.{◌≢◌, ◌↔◌, ℕ, ◌<◌}
use Rattle.integers.specs.Vectors.{Vector, HasDimension}
use Rattle.periodic_net.specs.Graph.{Graph, Vertex, IsVertex}
use Rattle.net_components.specs.ComponentSets.{InCopy}

-- the copies of r and s have the same vertices
abbrev pub AreSameCopy : Graph → ℕ → (ℕ → Vector) → Vector → Vector → Type 0
AreSameCopy G a T r s = (w : Vertex) → IsVertex G w → InCopy G a T r w ↔ InCopy G a T s w

-- the component of a has n different copies: those of these shifts, and each copy is one of them
pub record HasCopies (G : Graph) (a : ℕ) (T : ℕ → Vector) (n : ℕ) : Type 0 where
  pub shift : ℕ → Vector
  pub dimension : (i : ℕ) → i < n → HasDimension G.dimension (shift i)
  pub different : (i j : ℕ) → i < n → j < n → i ≢ j → ¬ AreSameCopy G a T (shift i) (shift j)
  pub every : (r : Vector) → HasDimension G.dimension r → (i : ℕ) × (i < n) × AreSameCopy G a T r (shift i)
