-- What the steps of a lifting need and report.
use Rattle.std.specs.Prelude.{◌≡◌, ◌≢◌, ℕ, ◌<◌, ◌≤◌, ℤ, List, length, All, unsigned_abs}
use Rattle.integers.specs.Bases.{Base}
use Rattle.integers.specs.Vectors.{Vector, zero_vector, HasDimension, IsWithin}
use Rattle.periodic_net.specs.Graph.{Arc}
use Rattle.periodic_net.specs.Limits.{most_vertices, most_shift}
use Rattle.vecdim.specs.Stairs.{Stairs, size_of}
use Rattle.net_cover.specs.Covers.{edge_at}
use Rattle.net_cover.specs.Faults.{IsWidePart, IsWideLift, LiftsWithin}
use Rattle.net_cover.specs.declared.faults.CoverFault.{CoverFault}
use Rattle.net_cover.specs.declared.faults.CoverFault.TheVariants.{CoverShift, NoMemory}

-- the fault reports the number x, which is past the limit of a shift
abbrev pub IsWideNumber : ℤ → CoverFault → Type 0
IsWideNumber x (CoverShift y) = (y ≡ x) × (most_shift < unsigned_abs x)
IsWideNumber x _ = ⊥

-- the fault reports the first wide part of k
abbrev pub TellsPart : Vector → CoverFault → Type 0
TellsPart k (CoverShift y) = (j : ℕ) × IsWidePart k j y
TellsPart k _ = ⊥

-- the fault reports the first wide part of the lift of a at remainder i
abbrev pub TellsLift : ℕ → Base → Stairs → Arc → ℕ → CoverFault → Type 0
TellsLift d b S a i (CoverShift y) = IsWideLift d b S a i y
TellsLift d b S a i _ = ⊥

-- y is the first wide part of a new shift of these edges, from the one at place m on
pub record IsFirstWideFrom (d : ℕ) (b : Base) (S : Stairs) (es : List Arc) (m : ℕ) (y : ℤ) : Type 0 where
  pub i : ℕ
  pub place : i < size_of S
  pub wide : IsWideLift d b S (edge_at es m) i y
  pub before : (j : ℕ) → j < i → LiftsWithin d b S (edge_at es m) j

-- the fault reports the first wide part of the lifts of the edge at place m, or that there is no memory
abbrev pub TellsEdge : ℕ → Base → Stairs → List Arc → ℕ → CoverFault → Type 0
TellsEdge d b S es m (CoverShift y) = IsFirstWideFrom d b S es m y
TellsEdge d b S es m NoMemory = Unit {0}
TellsEdge d b S es m _ = ⊥

-- the fault reports the first wide part of the lifts of these edges, or that there is no memory
abbrev pub TellsFirst : ℕ → Base → Stairs → List Arc → CoverFault → Type 0
TellsFirst d b S es (CoverShift y) = (m : ℕ) × (m < length es) × IsFirstWideFrom d b S es m y
    × ((n j : ℕ) → n < m → j < size_of S → LiftsWithin d b S (edge_at es n) j)
TellsFirst d b S es NoMemory = Unit {0}
TellsFirst d b S es _ = ⊥

-- an edge that may be lifted: among the vertices of a graph, with a small shift of the dimension, and no point
pub record CanLift (d : ℕ) (a : Arc) : Type 0 where
  pub from : (1 ≤ a.from) × (a.from ≤ most_vertices)
  pub to : (1 ≤ a.to) × (a.to ≤ most_vertices)
  pub dimension : HasDimension d a.shift
  pub small : IsWithin most_shift a.shift
  pub no_point : a.from ≡ a.to → a.shift ≢ zero_vector

-- all of them may be
abbrev pub CanLiftAll : ℕ → List Arc → Type 0
CanLiftAll d es = All (CanLift d) es
