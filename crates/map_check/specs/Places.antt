-- Places in the list of images.
use Rattle.std.specs.Prelude.{◌≡◌, ◌≢◌, ℕ, ◌<◌, List, length}
use Rattle.integers.specs.Vectors.{plus}
use Rattle.periodic_net.specs.Graph.{Graph, Arc, Vertex, vertex, arcs_from, AreJoined}
use Rattle.map_check.specs.Layouts.{box_size, cell_at, vertex_at}
use Rattle.map_check.specs.Faults.{KeepsArcs, IsFirstLostArc}
use Rattle.map_check.specs.Images.{image_at}

-- P holds at no place below n
abbrev pub HoldsNowhere : (ℕ → Type 0) → ℕ → Type 0
HoldsNowhere P n = (i : ℕ) → i < n → P i → ⊥

-- i is the first place below n at which P holds
pub record IsFirstPlace (P : ℕ → Type 0) (n i : ℕ) : Type 0 where
  pub inside : i < n
  pub is : P i
  pub none : HoldsNowhere P i

-- the image at place i has another number of arcs than the vertex there
abbrev pub HasOtherDegreeAt : Graph → Graph → ℕ → ℕ → List Vertex → ℕ → Type 0
HasOtherDegreeAt G H d m images i =
    length (arcs_from G (vertex_at d m i).over) ≢ length (arcs_from H (image_at images i).over)

-- each vertex at a place below n keeps its arcs
abbrev pub KeepsArcsBefore : Graph → Graph → ℕ → ℕ → (Vertex → Vertex) → ℕ → Type 0
KeepsArcsBefore G H d m f n = (i : ℕ) → i < n → KeepsArcs G H f (vertex_at d m i)

-- the ends of the arc a, taken from w, go to joined vertices
abbrev pub KeepsArc : Graph → (Vertex → Vertex) → Vertex → Arc → Type 0
KeepsArc H f w a = AreJoined H (f w) (f (vertex a.to (plus w.cell a.shift)))

-- p is the first place below n of a cell of the box from which a is lost, and n if there is none
pub record IsFirstLosingCell (H : Graph) (d m : ℕ) (f : Vertex → Vertex) (a : Arc) (n p : ℕ) : Type 0 where
  pub before : (q : ℕ) → q < p → KeepsArc H f (vertex a.from (cell_at d m q)) a
  pub lost : p < n → ¬ KeepsArc H f (vertex a.from (cell_at d m p)) a

-- w is the vertex over u in the first cell of the box from which an arc is lost, and a its first such arc
pub record IsFirstLostOver (G H : Graph) (d m u : ℕ) (f : Vertex → Vertex) (w : Vertex) (a : Arc) : Type 0 where
  pub at : ℕ
  pub inside : at < box_size d m
  pub is : w ≡ vertex u (cell_at d m at)
  pub arc : IsFirstLostArc G H f w a
  pub none : (q : ℕ) → q < at → KeepsArcs G H f (vertex u (cell_at d m q))

-- w is the vertex at the first place below n that loses an arc, and a its first such arc
pub record IsFirstLostAt (G H : Graph) (d m : ℕ) (f : Vertex → Vertex) (n : ℕ) (w : Vertex) (a : Arc) : Type 0 where
  pub at : ℕ
  pub inside : at < n
  pub vertex : w ≡ vertex_at d m at
  pub arc : IsFirstLostArc G H f w a
  pub none : KeepsArcsBefore G H d m f at
