-- The graph of one component, written in the staircase basis of its closed walks.
use Rattle.std.specs.Prelude.{◌≡◌, ◌⊎◌, ◌↔◌, ℕ, pos, ◌<◌, ◌≤◌, List, [], ◌∷◌}
use Rattle.integers.specs.Bases.{Base, base_sum}
use Rattle.integers.specs.Vectors.{Vector, vector, plus, HasDimension}
use Rattle.vecdim.specs.Stairs.{Stairs}
use Rattle.periodic_net.specs.Graph.{Graph, Arc, Vertex, vertex, moved, IsVertex, IsQuotientVertex, AreJoined}
use Rattle.periodic_net.specs.Split.{generator}
use Rattle.periodic_net.specs.Components.{InComponent, TellsWalks}
use Rattle.net_components.specs.ComponentSets.{IsLeast}
use Rattle.net_components.specs.Ranks.{IsFullAt}

-- the rows of a staircase as the vectors of a basis
abbrev pub stair_base : Stairs → Base
stair_base S = record { first = vector S.first_x S.first_y S.first_z; second = vector (pos 0) S.second_y S.second_z; third = vector (pos 0) (pos 0) S.third_z }

-- a numbering of some vertices: i is the number of at i, and numbers go from 1 to n
abbrev pub IsNumber : ℕ → ℕ → Type 0
IsNumber n i = (1 ≤ i) × (i ≤ n)

-- f is the edge e, with its ends by their numbers, and with the coordinates of the closed walk that it makes as its shift
pub record IsWritten (d n : ℕ) (T : ℕ → Vector) (b : Base) (at : ℕ → ℕ) (e f : Arc) : Type 0 where
  pub from : at f.from ≡ e.from
  pub to : at f.to ≡ e.to
  pub from_number : IsNumber n f.from
  pub to_number : IsNumber n f.to
  pub dimension : HasDimension d f.shift
  pub shift : base_sum b f.shift ≡ generator T e

-- fs are the edges of es that start in K, in their order, each as it is written
abbrev pub AreWritten : (ℕ → Type 0) → (Arc → Arc → Type 0) → List Arc → List Arc → Type 0
AreWritten K W [] [] = Unit {0}
AreWritten K W [] (f ∷ fs) = ⊥
AreWritten K W (e ∷ es) [] = (¬ K e.from) × AreWritten K W es []
AreWritten K W (e ∷ es) (f ∷ fs) = ((¬ K e.from) × AreWritten K W es (f ∷ fs)) ⊎ (K e.from × W e f × AreWritten K W es fs)

-- H is the graph of the component of a: at lists its vertices in rising order, T a walk to each, and S the lattice of the
-- closed walks
pub record IsPart (G : Graph) (a : ℕ) (T : ℕ → Vector) (S : Stairs) (at : ℕ → ℕ) (H : Graph) : Type 0 where
  pub dimension : H.dimension ≡ G.dimension
  pub least : IsLeast G a
  pub walks : TellsWalks G a T
  pub vertices : (i : ℕ) → IsQuotientVertex H i → InComponent G a (at i)
  pub each : (u : ℕ) → InComponent G a u → (i : ℕ) × IsQuotientVertex H i × (at i ≡ u)
  pub rising : (i j : ℕ) → IsQuotientVertex H i → IsQuotientVertex H j → i < j → at i < at j
  pub full : IsFullAt G a S
  pub edges : AreWritten (InComponent G a) (IsWritten G.dimension H.vertices T (stair_base S) at) G.edges H.edges

-- the vertex of the net that a vertex of the part's net goes to, in the copy of r
abbrev pub image : (ℕ → ℕ) → (ℕ → Vector) → Base → Vector → Vertex → Vertex
image at T b r w = vertex (at w.over) (plus (plus (T (at w.over)) r) (base_sum b w.cell))

-- the map is a bijection from the net of H onto a set of vertices of the net of G; images are joined if and only if the
-- vertices are; and it repeats
pub record IsNetOf (G H : Graph) (K : Vertex → Type 0) (b : Base) (map : Vertex → Vertex) : Type 0 where
  pub into : (w : Vertex) → IsVertex H w → IsVertex G (map w) × K (map w)
  pub onto : (x : Vertex) → IsVertex G x → K x → (w : Vertex) × IsVertex H w × (map w ≡ x)
  pub one : (w x : Vertex) → IsVertex H w → IsVertex H x → map w ≡ map x → w ≡ x
  pub joined : (w x : Vertex) → IsVertex H w → IsVertex H x → AreJoined H w x ↔ AreJoined G (map w) (map x)
  pub repeats : (w : Vertex) (k : Vector) → map (moved w k) ≡ moved (map w) (base_sum b k)
