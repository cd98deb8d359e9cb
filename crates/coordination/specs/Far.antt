-- How far walks lead along an axis.
use Rattle.std.specs.Prelude.{◌≡◌, ℕ, ◌+◌, ◌-◌, ◌*◌, ◌<◌, ◌≤◌, ℤ, pos, ◌+ℤ◌, ◌-ℤ◌, ◌≤ℤ◌, unsigned_abs, List, length, slice_index_or}
use Rattle.integers.specs.Vectors.{Vector}
use Rattle.periodic_net.specs.Graph.{Graph, IsQuotientVertex, Arc, Vertex}
use Rattle.periodic_net.specs.Shells.{StepsLead}
use Rattle.coordination.specs.Sequences.{most_shells}
use Rattle.coordination.specs.declared.extent.TheConstants.{LONGEST}
use Rattle.coordination.specs.declared.far.Axis.{Axis}
use Rattle.coordination.specs.declared.far.Axis.TheVariants.{X, Y, Z}

-- the part of a vector along an axis
abbrev pub part_of : Axis → Vector → ℤ
part_of X v = v.x
part_of Y v = v.y
part_of Z v = v.z

-- the number of vertex u
abbrev pub far_of : List ℕ → ℕ → ℕ
far_of far u = slice_index_or far (u - 1) 0

-- none of these numbers is more than m
abbrev pub AreAtMost : ℕ → List ℕ → Type 0
AreAtMost m far = (i : ℕ) → slice_index_or far i 0 ≤ m

-- no number became less
abbrev pub AreNoLess : List ℕ → List ℕ → Type 0
AreNoLess far far' = (i : ℕ) → slice_index_or far i 0 ≤ slice_index_or far' i 0

-- the number of vertex u was made at least this, and no number more than it must be
pub record IsRaised (far : List ℕ) (u : ℕ) (least : ℤ) (far' : List ℕ) : Type 0 where
  pub count : length far' ≡ length far
  pub no_less : AreNoLess far far'
  pub raised : least ≤ℤ pos (far_of far' u)
  pub bound : (m : ℕ) → AreAtMost m far → least ≤ℤ pos m → AreAtMost m far'

-- these edges lead between n vertices
abbrev pub AreBetween : ℕ → List Arc → Type 0
AreBetween n edges = (k : ℕ) (d : Arc) → k < length edges
    → (1 ≤ (slice_index_or edges k d).from) × ((slice_index_or edges k d).from ≤ n) × (1 ≤ (slice_index_or edges k d).to) × ((slice_index_or edges k d).to ≤ n)

-- the numbers were made at least those of the ends of the first n edges, with the parts of the edges
pub record AreFarther (axis : Axis) (n : ℕ) (edges : List Arc) (far next next' : List ℕ) : Type 0 where
  pub count : length next' ≡ length next
  pub no_less : AreNoLess next next'
  pub forth : (k : ℕ) (d : Arc) → k < n → k < length edges
      → (pos (far_of far (slice_index_or edges k d).to) +ℤ part_of axis (slice_index_or edges k d).shift) ≤ℤ pos (far_of next' (slice_index_or edges k d).from)
  pub back : (k : ℕ) (d : Arc) → k < n → k < length edges
      → (pos (far_of far (slice_index_or edges k d).from) -ℤ part_of axis (slice_index_or edges k d).shift) ≤ℤ pos (far_of next' (slice_index_or edges k d).to)
  pub bound : (m : ℕ) → AreAtMost m far → AreAtMost (m + LONGEST) next → AreAtMost (m + LONGEST) next'

-- no walk of at most n steps leads farther along the axis than the number of the vertex that it starts over
pub record AreFarAfter (P : Graph) (axis : Axis) (n : ℕ) (far : List ℕ) : Type 0 where
  pub count : length far ≡ P.vertices
  pub walks : (k : ℕ) (w x : Vertex) → k ≤ n → IsQuotientVertex P w.over → StepsLead P k w x
      → (part_of axis x.cell -ℤ part_of axis w.cell) ≤ℤ pos (far_of far w.over)
  pub bound : AreAtMost (n * LONGEST) far

-- no walk of at most ten steps leads farther than m along the axis, one way or the other
abbrev pub IsFarthest : Graph → Axis → ℕ → Type 0
IsFarthest P axis m = (k : ℕ) (w x : Vertex) → k ≤ most_shells → IsQuotientVertex P w.over → StepsLead P k w x
    → unsigned_abs (part_of axis x.cell -ℤ part_of axis w.cell) ≤ m
