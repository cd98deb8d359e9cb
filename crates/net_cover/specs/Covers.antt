-- The cover of a quotient graph on a larger cell.
use Rattle.std.specs.Prelude.{◌≡◌, ◌⊎◌, ◌↔◌, ℕ, ◌+◌, ◌-◌, ◌*◌, ◌/◌, ◌%◌, ◌<◌, List, length, All, Contains, slice_index_or}
use Rattle.integers.specs.Bases.{Base, base_sum}
use Rattle.integers.specs.Vectors.{Vector, zero_vector, plus, HasDimension, IsWithin}
use Rattle.periodic_net.specs.Graph.{Graph, IsGraph, Vertex, Arc, arc, reverse_of, IsNormalSpelling}
use Rattle.periodic_net.specs.Limits.{most_shift}
use Rattle.sublattice.specs.Remainders.{remainder_with}
use Rattle.sublattice.specs.Sublattices.{index_of, IsSublattice}
use Rattle.vecdim.specs.Stairs.{Stairs, size_of}

-- the number of vertex u at the remainder with number i, if there are n remainders
abbrev pub number_in_cover : ℕ → ℕ → ℕ → ℕ
number_in_cover n u i = (u - 1) * n + i + 1

-- from remainder i the arc a leads to remainder j and a sum of rows further, whose coefficients are k
pub record LeadsTo (d : ℕ) (b : Base) (S : Stairs) (a : Arc) (i j : ℕ) (k : Vector) : Type 0 where
  pub start : i < size_of S
  pub end : j < size_of S
  pub dimension : HasDimension d k
  pub shift : plus (remainder_with S i) a.shift ≡ plus (remainder_with S j) (base_sum b k)

-- k is the new shift of the arc a at remainder i, in the direction of a
abbrev pub IsNewShift : ℕ → Base → Stairs → Arc → ℕ → Vector → Type 0
IsNewShift d b S a i k = (j : ℕ) × LeadsTo d b S a i j k

-- e lifts the arc a from remainder i to remainder j, with its new shift
pub record IsLiftTo (d : ℕ) (b : Base) (S : Stairs) (a : Arc) (i j : ℕ) (e : Arc) : Type 0 where
  pub from : e.from ≡ number_in_cover (size_of S) a.from i
  pub to : e.to ≡ number_in_cover (size_of S) a.to j
  pub leads : LeadsTo d b S a i j e.shift

-- e lifts the arc a at remainder i
abbrev pub IsLift : ℕ → Base → Stairs → Arc → ℕ → Arc → Type 0
IsLift d b S a i e = (j : ℕ) × IsLiftTo d b S a i j e

-- e is the edge l, or its reverse, in normal spelling
abbrev pub Spells : Arc → Arc → Type 0
Spells l e = IsNormalSpelling e × ((e ≡ l) ⊎ (e ≡ reverse_of l))

-- e is the edge that the edge a gives at remainder i
abbrev pub IsGivenAt : ℕ → Base → Stairs → Arc → ℕ → Arc → Type 0
IsGivenAt d b S a i e = (l : Arc) × IsLift d b S a i l × Spells l e

-- the edge at place m, counted from 0
abbrev pub edge_at : List Arc → ℕ → Arc
edge_at es m = slice_index_or es m (arc 0 0 zero_vector)

-- the first edges that these edges give, each at all remainders in turn, so many and each with a small shift
pub record AreGiven (d : ℕ) (b : Base) (S : Stairs) (es : List Arc) (count : ℕ) (given : List Arc) : Type 0 where
  pub length_is : length given ≡ count
  pub each : (t : ℕ) → t < count → IsGivenAt d b S (edge_at es (t / size_of S)) (t % size_of S) (edge_at given t)
  pub small : All (λ e. IsWithin most_shift e.shift) given

-- e is given by an edge of G at a remainder
abbrev pub IsGiven : Graph → Base → Stairs → Arc → Type 0
IsGiven G b S e = (a : Arc) × (i : ℕ) × Contains G.edges a × IsGivenAt G.dimension b S a i e

-- C is the graph that G is on the cell with the rows b: a vertex for each vertex and remainder modulo the lattice of
-- the rows, and an edge for each edge and remainder
pub record IsCover (G : Graph) (b : Base) (C : Graph) : Type 0 where
  pub lattice : Stairs
  pub is_lattice : IsSublattice G.dimension b lattice
  pub is_graph : IsGraph C
  pub dimension : C.dimension ≡ G.dimension
  pub vertices : C.vertices ≡ G.vertices * size_of lattice
  pub edges : (e : Arc) → Contains C.edges e ↔ IsGiven G b lattice e
  pub count : length C.edges ≡ length G.edges * size_of lattice

-- C has n times the index vertices and the edges times the index
pub record HasCoverSize (G : Graph) (b : Base) (C : Graph) : Type 0 where
  pub vertices : C.vertices ≡ G.vertices * index_of G.dimension b
  pub edges : length C.edges ≡ length G.edges * index_of G.dimension b

-- x lies over w: over the number of w's vertex at a remainder, in the cell of the coefficients of what is left
pub record LiesOver (b : Base) (S : Stairs) (w x : Vertex) : Type 0 where
  pub i : ℕ
  pub below : i < size_of S
  pub over : x.over ≡ number_in_cover (size_of S) w.over i
  pub cell : w.cell ≡ plus (remainder_with S i) (base_sum b x.cell)
