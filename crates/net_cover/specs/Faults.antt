-- Why a graph has no cover on a cell.
use Rattle.std.specs.Prelude.{◌≡◌, ◌≢◌, ◌⊎◌, ℕ, ◌*◌, ◌<◌, ◌≤◌, ℤ, pos, length, unsigned_abs}
use Rattle.integers.specs.Bases.{Base}
use Rattle.integers.specs.Staircase.{part}
use Rattle.integers.specs.Vectors.{Vector, IsWithin}
use Rattle.periodic_net.specs.Graph.{Graph, Arc}
use Rattle.periodic_net.specs.Limits.{most_vertices, most_edges, most_shift}
use Rattle.vecdim.specs.Stairs.{Stairs, size_of}
use Rattle.sublattice.specs.Sublattices.{IsSublattice}
use Rattle.net_cover.specs.Covers.{IsNewShift, edge_at}
use Rattle.net_cover.specs.Cells.{CellView, determinant_in, index_in}
use Rattle.net_cover.specs.declared.faults.CoverFault.{CoverFault}
use Rattle.net_cover.specs.declared.faults.CoverFault.TheVariants.{CellDimension, CellRank, CoverVertices, CoverEdges, CoverShift, NoMemory}

-- part j of k is x, the first past the limit of a shift
pub record IsWidePart (k : Vector) (j : ℕ) (x : ℤ) : Type 0 where
  pub place : j < 3
  pub value : part j k ≡ x
  pub wide : most_shift < unsigned_abs x
  pub before : (i : ℕ) → i < j → unsigned_abs (part i k) ≤ most_shift

-- the lift of the arc a at remainder i has a new shift with the first wide part x
pub record IsWideLift (d : ℕ) (b : Base) (S : Stairs) (a : Arc) (i : ℕ) (x : ℤ) : Type 0 where
  pub k : Vector
  pub shift : IsNewShift d b S a i k
  pub j : ℕ
  pub wide : IsWidePart k j x

-- all new shifts of the arc a at remainder i are within the limit
abbrev pub LiftsWithin : ℕ → Base → Stairs → Arc → ℕ → Type 0
LiftsWithin d b S a i = (k : Vector) → IsNewShift d b S a i k → IsWithin most_shift k

-- x is the first wide part of a new shift, in the order of edges, of remainders, and of coordinates
pub record IsFirstWide (G : Graph) (b : Base) (x : ℤ) : Type 0 where
  pub lattice : Stairs
  pub is_lattice : IsSublattice G.dimension b lattice
  pub m : ℕ
  pub i : ℕ
  pub edge : m < length G.edges
  pub place : i < size_of lattice
  pub wide : IsWideLift G.dimension b lattice (edge_at G.edges m) i x
  pub before : (n j : ℕ) → (n < m) ⊎ ((n ≡ m) × (j < i)) → j < size_of lattice
      → LiftsWithin G.dimension b lattice (edge_at G.edges n) j

-- no new shift is past the limit
pub record AreShiftsWithin (G : Graph) (b : Base) : Type 0 where
  pub lattice : Stairs
  pub is_lattice : IsSublattice G.dimension b lattice
  pub within : (n j : ℕ) → n < length G.edges → j < size_of lattice
      → LiftsWithin G.dimension b lattice (edge_at G.edges n) j

-- the cell has the dimension of the graph
abbrev pub FitsDimension : Graph → CellView → Type 0
FitsDimension G R = R.dimension ≡ G.dimension

-- and its rows are independent
abbrev pub FitsRank : Graph → CellView → Type 0
FitsRank G R = FitsDimension G R × (determinant_in R ≢ pos 0)

-- and the cover does not have too many vertices
abbrev pub FitsVertices : Graph → CellView → Type 0
FitsVertices G R = FitsRank G R × (G.vertices * index_in R ≤ most_vertices)

-- nor edges
abbrev pub FitsEdges : Graph → CellView → Type 0
FitsEdges G R = FitsVertices G R × (length G.edges * index_in R ≤ most_edges)

-- so the graph has a cover within the limits
abbrev pub IsCoverable : Graph → CellView → Type 0
IsCoverable G R = FitsEdges G R × AreShiftsWithin G R.rows

-- the first of these that fails, with its value
abbrev pub IsCoverFault : Graph → CellView → CoverFault → Type 0
IsCoverFault G R CellDimension = ¬ FitsDimension G R
IsCoverFault G R CellRank = FitsDimension G R × (determinant_in R ≡ pos 0)
IsCoverFault G R (CoverVertices count) = FitsRank G R × (count ≡ G.vertices * index_in R) × (most_vertices < count)
IsCoverFault G R (CoverEdges count) = FitsVertices G R × (count ≡ length G.edges * index_in R) × (most_edges < count)
IsCoverFault G R (CoverShift value) = FitsEdges G R × IsFirstWide G R.rows value
IsCoverFault G R NoMemory = Unit {0}
