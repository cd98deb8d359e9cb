-- The shifts of a component's edges in the staircase basis of its closed walks.
use Rattle.std.specs.Prelude.{◌≡◌, ℕ, ◌<◌, ◌≤◌, ◌-◌, ℤ, unsigned_abs, List, ◌∷◌, ◌++◌, Contains}
use Rattle.integers.specs.Bases.{base_sum}
use Rattle.integers.specs.Staircase.{part}
use Rattle.integers.specs.Vectors.{Vector, plus, minus, HasDimension, IsWithin}
use Rattle.vecdim.specs.Stairs.{Stairs}
use Rattle.periodic_net.specs.Graph.{Graph, Arc, arc}
use Rattle.periodic_net.specs.Limits.{most_shift}
use Rattle.periodic_net.specs.Chosen.{path_shift, IsChosen}
use Rattle.periodic_net.specs.Components.{InComponent}
use Rattle.net_components.specs.ComponentSets.{IsLeast}
use Rattle.net_components.specs.PartGraphs.{stair_base}
use Rattle.net_components.specs.Ranks.{IsFullAt}

-- e is an edge of the component of a, and k its shift there: with the chosen walks to its ends it makes a closed walk,
-- whose coordinates are k
pub record IsShiftIn (G : Graph) (a : ℕ) (e : Arc) (k : Vector) : Type 0 where
  pub tail : InComponent G a e.from
  pub there : List Arc
  pub is_there : IsChosen G a e.from there
  pub back : List Arc
  pub is_back : IsChosen G a e.to back
  pub stairs : Stairs
  pub full : IsFullAt G a stairs
  pub dimension : HasDimension G.dimension k
  pub coordinates : base_sum (stair_base stairs) k ≡ minus (plus (path_shift there) e.shift) (path_shift back)

-- the edges of the component of a among these have shifts within the limit there
abbrev pub AreNarrow : Graph → ℕ → List Arc → Type 0
AreNarrow G a es = (e : Arc) → Contains es e → InComponent G a e.from → (k : Vector) × IsShiftIn G a e k × IsWithin most_shift k

-- of the parts of k, the one at place c, counted from 1, is the first past the limit
pub record IsFirstWide (k : Vector) (c : ℕ) (value : ℤ) : Type 0 where
  pub place : (1 ≤ c) × (c ≤ 3)
  pub is : value ≡ part (c - 1) k
  pub past : most_shift < unsigned_abs value
  pub first : (i : ℕ) → i < c - 1 → unsigned_abs (part i k) ≤ most_shift

-- e has a shift in the graph of the component of a whose part c is the first past the limit, with this value
pub record IsWideAt (G : Graph) (a : ℕ) (e : Arc) (c : ℕ) (value : ℤ) : Type 0 where
  pub k : Vector
  pub shift : IsShiftIn G a e k
  pub first : IsFirstWide k c value
  pub inside : c ≤ G.dimension

-- of the edges of the component of a, that from u to v by s is the first whose shift there is past the limit
pub record IsWideIn (G : Graph) (a u v : ℕ) (s : Vector) (c : ℕ) (value : ℤ) : Type 0 where
  pub before : List Arc
  pub after : List Arc
  pub edges : G.edges ≡ before ++ arc u v s ∷ after
  pub narrow : AreNarrow G a before
  pub wide : IsWideAt G a (arc u v s) c value

-- all components have full rank; of those with an edge whose shift there is past the limit the first, of its edges the first,
-- from u to v by s, and of its shift there the first part, c, with this value
pub record IsWideShift (G : Graph) (u v : ℕ) (s : Vector) (c : ℕ) (value : ℤ) : Type 0 where
  pub full : (b : ℕ) → IsLeast G b → (S : Stairs) × IsFullAt G b S
  pub root : ℕ
  pub least : IsLeast G root
  pub earlier : (b : ℕ) → IsLeast G b → b < root → AreNarrow G b G.edges
  pub wide : IsWideIn G root u v s c value
