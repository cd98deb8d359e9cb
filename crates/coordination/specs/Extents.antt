-- How far the shells of a start reach.
use Rattle.std.specs.Prelude.{ℕ, ◌≤◌, ℤ, unsigned_abs, List, All}
use Rattle.integers.specs.Vectors.{Vector, zero_vector}
use Rattle.periodic_net.specs.Graph.{Graph, IsQuotientVertex, Arc, Vertex, vertex}
use Rattle.periodic_net.specs.Shells.{StepsLead}
use Rattle.coordination.specs.Sequences.{most_shells}
use Rattle.coordination.specs.declared.extent.TheConstants.{LONGEST}
use Rattle.coordination.specs.declared.extent.Extent.{Extent}

-- m is at least n and the part s, and within the limit of a step
pub record IsWiderBy (n : ℕ) (s : ℤ) (m : ℕ) : Type 0 where
  pub number : n ≤ m
  pub part : unsigned_abs s ≤ m
  pub limit : m ≤ LONGEST

-- cell t is no farther from cell 0 than r, along each axis
pub record IsCellWithin (r : Extent) (t : Vector) : Type 0 where
  pub x : unsigned_abs t.x ≤ r.x
  pub y : unsigned_abs t.y ≤ r.y
  pub z : unsigned_abs t.z ≤ r.z

-- extent r reaches no farther than q
pub record IsWithinExtent (r q : Extent) : Type 0 where
  pub x : r.x ≤ q.x
  pub y : r.y ≤ q.y
  pub z : r.z ≤ q.z

-- each part of r is at most n
pub record IsNarrow (n : ℕ) (r : Extent) : Type 0 where
  pub x : r.x ≤ n
  pub y : r.y ≤ n
  pub z : r.z ≤ n

-- no shift of these edges goes farther than r
abbrev pub AreShiftsWithin : List Arc → Extent → Type 0
AreShiftsWithin edges r = All (λ (e : Arc). IsCellWithin r e.shift) edges

-- no vertex that at most ten steps lead to from cell 0 is farther from it than r
abbrev pub IsExtent : Graph → Extent → Type 0
IsExtent P r = (c k : ℕ) (x : Vertex) → IsQuotientVertex P c → k ≤ most_shells → StepsLead P k (vertex c zero_vector) x → IsCellWithin r x.cell
