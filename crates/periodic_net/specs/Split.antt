-- Colourings that show a net not connected.
-- Splits are this project's own.
use Rattle.std.specs.Prelude.{◌≡◌, ◌≢◌, ◌⊎◌, ℕ, ◌-◌, ℤ, pos, ◌<◌, ◌≤◌, ◌<ℤ◌, ◌≤ℤ◌, ◌*ℤ◌, ◌+ℤ◌, neg_ℤ, List, slice_index_or, length}
use Rattle.integers.specs.Vectors.{Vector, zero_vector, plus, minus, dot, HasDimension, StartsPositive}
use Rattle.integers.specs.Staircase.{part, IsZeroBefore}
use Rattle.periodic_net.specs.Graph.{Graph, Arc, Vertex, vertex, IsVertex, IsQuotientVertex, AreJoined, IsReached}

-- x and y differ by a multiple of q; at q = 0 they are equal
abbrev pub AreAlike : ℕ → ℤ → ℤ → Type 0
AreAlike q x y = (k : ℤ) × (x ≡ y +ℤ pos q *ℤ k)

-- a colouring of the net: a modulus, a vector, and an entry for each vertex of the quotient graph
pub record Split : Type 0 where
  pub q : ℕ
  pub c : Vector
  pub h : List ℤ

-- the entry of vertex u, which is counted from 1
abbrev pub entry : List ℤ → ℕ → ℤ
entry h u = slice_index_or h (u - 1) (pos 0)

-- the colour of (u, t) is h(u) + c·t, taken modulo q
abbrev pub colour : Split → Vertex → ℤ
colour S w = entry S.h w.over +ℤ dot S.c w.cell

-- S splits the net: joined vertices have equal colours, and two colours occur
pub record IsSplit (G : Graph) (S : Split) : Type 0 where
  pub joined : (w x : Vertex) → IsVertex G w → IsVertex G x → AreJoined G w x → AreAlike S.q (colour S w) (colour S x)
  pub two : (w : Vertex) × (x : Vertex) × IsVertex G w × IsVertex G x × ¬ AreAlike S.q (colour S w) (colour S x)

-- T is the shift of a walk from vertex a to u
abbrev pub WalkShift : Graph → ℕ → ℕ → Vector → Type 0
WalkShift G a u T = IsReached G (vertex a zero_vector) (vertex u T)

-- v is the shift of a closed walk from vertex a
abbrev pub ClosedShift : Graph → ℕ → Vector → Type 0
ClosedShift G a v = WalkShift G a a v

-- with a walk of shift T u to each vertex u: the shift of the closed walk to the tail of an arc, along
-- it, and back from its head
abbrev pub generator : (ℕ → Vector) → Arc → Vector
generator T e = minus (plus (T e.from) e.shift) (T e.to)

-- some walk from vertex a ends over u
abbrev pub IsFound : Graph → ℕ → ℕ → Type 0
IsFound G a u = (T : Vector) × WalkShift G a u T

-- c·v is 0 for each closed shift v
abbrev pub IsOrthogonal : Graph → Vector → Type 0
IsOrthogonal G c = (v : Vector) → ClosedShift G 1 v → dot c v ≡ pos 0

-- the first case: the quotient graph is not connected
pub record IsPartSplit (G : Graph) (S : Split) : Type 0 where
  pub q : S.q ≡ 0
  pub c : S.c ≡ zero_vector
  pub count : length S.h ≡ G.vertices
  pub found : (u : ℕ) → IsQuotientVertex G u → IsFound G 1 u → entry S.h u ≡ pos 0
  pub elsewhere : (u : ℕ) → IsQuotientVertex G u → ¬ IsFound G 1 u → entry S.h u ≡ pos 1
  pub missed : (u : ℕ) × IsQuotientVertex G u × ¬ IsFound G 1 u

-- no part after place k is other than 0
abbrev pub EndsBy : ℕ → Vector → Type 0
EndsBy k c = (i : ℕ) → k < i → part i c ≡ pos 0

-- the second case: the shifts of closed walks have a rank below d
pub record IsFlatSplit (G : Graph) (S : Split) : Type 0 where
  pub found : (u : ℕ) → IsQuotientVertex G u → IsFound G 1 u
  pub q : S.q ≡ 0
  pub dimension : HasDimension G.dimension S.c
  pub orthogonal : IsOrthogonal G S.c
  pub positive : StartsPositive S.c
  pub lowest : (e : Vector) (k : ℕ) → HasDimension G.dimension e → IsOrthogonal G e → e ≢ zero_vector → EndsBy k e → EndsBy k S.c
  pub coprime : (e : Vector) (k : ℤ) → S.c ≡ record { x = k *ℤ e.x; y = k *ℤ e.y; z = k *ℤ e.z } → (k ≡ pos 1) ⊎ (k ≡ neg_ℤ (pos 1))
  pub count : length S.h ≡ G.vertices
  pub h : (u : ℕ) (T : Vector) → IsQuotientVertex G u → WalkShift G 1 u T → entry S.h u ≡ neg_ℤ (dot S.c T)

-- p is the least positive part at place k among the closed shifts whose earlier parts are 0
pub record IsPivot (G : Graph) (k : ℕ) (p : ℕ) : Type 0 where
  pub positive : 1 ≤ p
  pub reached : (v : Vector) × ClosedShift G 1 v × IsZeroBefore k v × (part k v ≡ pos p)
  pub least : (v : Vector) → ClosedShift G 1 v → IsZeroBefore k v → pos 0 <ℤ part k v → pos p ≤ℤ part k v

-- the third case: full rank, and not all shifts
pub record IsSparseSplit (G : Graph) (S : Split) (k : ℕ) : Type 0 where
  pub found : (u : ℕ) → IsQuotientVertex G u → IsFound G 1 u
  pub place : k < G.dimension
  pub full : (i : ℕ) → i < G.dimension → (p : ℕ) × IsPivot G i p
  pub pivot : IsPivot G k S.q
  pub above : 2 ≤ S.q
  pub earlier : (i : ℕ) → i < k → IsPivot G i 1
  pub range : (i : ℕ) → (pos 0 ≤ℤ part i S.c) × (part i S.c <ℤ pos S.q)
  pub one : part k S.c ≡ pos 1
  pub ends : EndsBy k S.c
  pub divides : (v : Vector) → ClosedShift G 1 v → AreAlike S.q (dot S.c v) (pos 0)
  pub count : length S.h ≡ G.vertices
  pub h_range : (u : ℕ) → IsQuotientVertex G u → (pos 0 ≤ℤ entry S.h u) × (entry S.h u <ℤ pos S.q)
  pub h : (u : ℕ) (T : Vector) → IsQuotientVertex G u → WalkShift G 1 u T → AreAlike S.q (entry S.h u) (neg_ℤ (dot S.c T))
