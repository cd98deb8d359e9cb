-- The theorems on components, as statements.
use Rattle.std.specs.Prelude.{◌≡◌, ◌↔◌, ℕ}
use Rattle.integers.specs.Vectors.{Vector, minus, HasDimension}
use Rattle.vecdim.specs.Stairs.{Stairs, size_of}
use Rattle.periodic_net.specs.Graph.{Graph, IsGraph, Vertex, IsVertex, IsReached, IsConnected}
use Rattle.periodic_net.specs.Split.{ClosedShift}
use Rattle.periodic_net.specs.Components.{InComponent, TellsWalks}
use Rattle.net_components.specs.ComponentSets.{IsLeast, InCopy}
use Rattle.net_components.specs.Copies.{HasCopies}
use Rattle.net_components.specs.PartGraphs.{stair_base, IsPart, image, IsNetOf}
use Rattle.net_components.specs.Ranks.{IsFlatAt, IsFullAt}

-- the copies of the components are exactly the classes of vertices that walks join
pub record CopiesAreClasses : Type 0 where
  pub class : (G : Graph) (a : ℕ) (T : ℕ → Vector) → IsGraph G → TellsWalks G a T → (r : Vector)
      → (w x : Vertex) → IsVertex G w → InCopy G a T r w → IsReached G w x ↔ InCopy G a T r x
  pub each : (G : Graph) (a : ℕ) (T : ℕ → Vector) (w : Vertex) → InComponent G a w.over
      → (r : Vector) × InCopy G a T r w
  pub same : (G : Graph) (a : ℕ) (T : ℕ → Vector) (r s : Vector) (w : Vertex) → InCopy G a T r w
      → ClosedShift G a (minus r s) ↔ InCopy G a T s w
  pub one_component : (G : Graph) (a b : ℕ) (S T : ℕ → Vector) (r s : Vector) (w : Vertex) → IsLeast G a
      → IsLeast G b → InCopy G a S r w → InCopy G b T s w → a ≡ b

-- a part is a graph, its net is connected, and is each of the copies of its component as a net of its own
pub record IsNetOfEachCopy (G : Graph) (a : ℕ) (T : ℕ → Vector) (S : Stairs) (at : ℕ → ℕ) (H : Graph) : Type 0 where
  pub graph : IsGraph H
  pub connected : IsConnected H
  pub net : (r : Vector) → HasDimension G.dimension r
      → IsNetOf G H (InCopy G a T r) (stair_base S) (image at T (stair_base S) r)

-- so is each part of each graph
abbrev pub PartsAreNets : Type 0
PartsAreNets =
    (G : Graph) → IsGraph G → (a : ℕ) (T : ℕ → Vector) (S : Stairs) (at : ℕ → ℕ) (H : Graph)
    → IsPart G a T S at H → IsNetOfEachCopy G a T S at H

-- a component of full rank has as many copies as the product of the pivots, and no other number of them
pub record CopiesAreCounted : Type 0 where
  pub count : (G : Graph) → IsGraph G → (a : ℕ) (T : ℕ → Vector) (S : Stairs) → IsLeast G a
      → TellsWalks G a T → IsFullAt G a S → HasCopies G a T (size_of S)
  pub one_count : (G : Graph) (a : ℕ) (T : ℕ → Vector) (m n : ℕ) → HasCopies G a T m → HasCopies G a T n → m ≡ n

-- the closed walks of a component have one staircase or one normal, and never both
pub record RanksAreOne : Type 0 where
  pub exclude : (G : Graph) → IsGraph G → (a : ℕ) (c : Vector) (S : Stairs) → IsFlatAt G a c → ¬ IsFullAt G a S
  pub one_stair : (G : Graph) → IsGraph G → (a : ℕ) (S R : Stairs) → IsFullAt G a S → IsFullAt G a R → S ≡ R
  pub one_normal : (G : Graph) (a : ℕ) (c e : Vector) → IsFlatAt G a c → IsFlatAt G a e → c ≡ e
