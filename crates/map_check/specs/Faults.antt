-- The faults of a periodic map that is written as a table, and the verdict on it.
use Rattle.std.specs.Prelude.{◌≡◌, ◌≢◌, ℕ, ◌*◌, ◌^◌, length}
use Rattle.integers.specs.Vectors.{plus, IsBelow}
use Rattle.periodic_net.specs.Graph.{Graph, Arc, arc, arcs_from, IsArc, AreJoined, Vertex, vertex}
use Rattle.periodic_net.specs.Maps.{PeriodicMap}
use Rattle.quotient_graph.specs.Order.{arc_numbers}
use Rattle.sublattice.specs.Sublattices.{index_of}
use Rattle.map_check.specs.Tables.{CountsAgree, HasNoDouble, DegreesAgree, IsMovedImage, IsBoxVertex}
use Rattle.map_check.specs.Laws.{Passes}
use Rattle.map_check.specs.Layouts.{ComesBefore}
use Rattle.map_check.specs.declared.verdict.MapFault.{MapFault}
use Rattle.map_check.specs.declared.verdict.MapFault.TheVariants.{Dimension, Count, Doubled, Degree, Arc as LostArc}
use Rattle.map_check.specs.declared.verdict.Verdict.{Verdict}
use Rattle.map_check.specs.declared.verdict.Verdict.TheVariants.{Yes, No}

-- P holds of the vertex w in the box, and of none in the box that comes before it
pub record IsFirstInBox (G : Graph) (m : ℕ) (P : Vertex → Type 0) (w : Vertex) : Type 0 where
  pub inside : IsBoxVertex G m w
  pub is : P w
  pub none : (x : Vertex) → IsBoxVertex G m x → ComesBefore x w → ¬ P x

-- the image of w is that of an earlier vertex, moved by a whole combination of the shifts
pub record IsDoubled (G : Graph) (M : PeriodicMap) (w : Vertex) : Type 0 where
  pub earlier : Vertex
  pub inside : IsBoxVertex G M.m earlier
  pub before : ComesBefore earlier w
  pub moved : IsMovedImage G M w.over w.cell earlier.over earlier.cell

-- the image of w has another number of arcs than w
abbrev pub HasOtherDegree : Graph → Graph → PeriodicMap → Vertex → Type 0
HasOtherDegree G H M w = length (arcs_from G w.over) ≢ length (arcs_from H (M.image w.over w.cell).over)

-- the ends of the arc a, taken from w, go to vertices that are not joined
pub record IsLost (G H : Graph) (f : Vertex → Vertex) (w : Vertex) (a : Arc) : Type 0 where
  pub is_arc : IsArc G a
  pub from : a.from ≡ w.over
  pub lost : ¬ AreJoined H (f w) (f (vertex a.to (plus w.cell a.shift)))

-- so do those of some arc of w
abbrev pub LosesArc : Graph → Graph → (Vertex → Vertex) → Vertex → Type 0
LosesArc G H f w = (a : Arc) × IsLost G H f w a

-- the ends of each arc of w go to joined vertices
abbrev pub KeepsArcs : Graph → Graph → (Vertex → Vertex) → Vertex → Type 0
KeepsArcs G H f w =
    (a : Arc) → IsArc G a → a.from ≡ w.over → AreJoined H (f w) (f (vertex a.to (plus w.cell a.shift)))

-- a is the first arc of w that is lost
pub record IsFirstLostArc (G H : Graph) (f : Vertex → Vertex) (w : Vertex) (a : Arc) : Type 0 where
  pub lost : IsLost G H f w a
  pub none : (c : Arc) → IsLost G H f w c → ¬ IsBelow (arc_numbers c) (arc_numbers a)

-- w is the first vertex of which an arc is lost, and a its first such arc
pub record IsFirstLost (G H : Graph) (m : ℕ) (f : Vertex → Vertex) (w : Vertex) (a : Arc) : Type 0 where
  pub vertex : IsFirstInBox G m (LosesArc G H f) w
  pub arc : IsFirstLostArc G H f w a

-- the faults at a vertex, and at an arc of a vertex
abbrev pub double_at : Vertex → MapFault
double_at w = Doubled w.over w.cell

-- another degree
abbrev pub degree_at : Vertex → MapFault
degree_at w = Degree w.over w.cell

-- a lost arc
abbrev pub lost_at : Vertex → Arc → MapFault
lost_at w a = LostArc w.over w.cell a.to a.shift

-- what a fault says of the map f that M writes down
abbrev pub HasFault : Graph → Graph → PeriodicMap → (Vertex → Vertex) → MapFault → Type 0
HasFault G H M f Dimension = G.dimension ≢ H.dimension
HasFault G H M f (Count entries product) =
    (entries ≡ G.vertices * M.m ^ G.dimension) × (product ≡ H.vertices * index_of G.dimension M.base)
    × (entries ≢ product)
HasFault G H M f (Doubled u r) = IsFirstInBox G M.m (IsDoubled G M) (vertex u r)
HasFault G H M f (Degree u r) = IsFirstInBox G M.m (HasOtherDegree G H M) (vertex u r)
HasFault G H M f (LostArc u r v s) = IsFirstLost G H M.m f (vertex u r) (arc u v s)

-- no fault of an earlier kind is there
abbrev pub PassesBefore : Graph → Graph → PeriodicMap → MapFault → Type 0
PassesBefore G H M Dimension = Unit {0}
PassesBefore G H M (Count entries product) = G.dimension ≡ H.dimension
PassesBefore G H M (Doubled u r) = (G.dimension ≡ H.dimension) × CountsAgree G H M
PassesBefore G H M (Degree u r) = (G.dimension ≡ H.dimension) × CountsAgree G H M × HasNoDouble G M
PassesBefore G H M (LostArc u r v s) =
    (G.dimension ≡ H.dimension) × CountsAgree G H M × HasNoDouble G M × DegreesAgree G H M

-- the verdict on the map f that M writes down: Yes if it has no fault, and otherwise the first fault
abbrev pub IsVerdict : Graph → Graph → PeriodicMap → (Vertex → Vertex) → Verdict → Type 0
IsVerdict G H M f Yes = (G.dimension ≡ H.dimension) × Passes G H M f
IsVerdict G H M f (No fault) = PassesBefore G H M fault × HasFault G H M f fault
