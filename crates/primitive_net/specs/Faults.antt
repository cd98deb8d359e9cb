-- Why a primitive graph is not placed.
use Rattle.std.specs.Prelude.{◌≡◌, ℕ, ◌<◌, List, length, slice_index_or, All}
use Rattle.integers.specs.Vectors.{IsWithin}
use Rattle.periodic_net.specs.Graph.{Arc, arc, Graph, IsGraph}
use Rattle.periodic_net.specs.Limits.{IsSmall, most_shift}
use Rattle.quotient_graph.specs.Order.{AreRising}
use Rattle.least_key.specs.Truths.{IsOfPlacing, IsTrueOf}
use Rattle.least_key.specs.declared.refusal.Refusal.{Refusal}
use Rattle.least_key.specs.declared.refusal.Refusal.TheVariants.{NoMemory}
use Rattle.primitive_net.specs.declared.fault.PrimitiveFault.{PrimitiveFault}
use Rattle.primitive_net.specs.declared.fault.PrimitiveFault.TheVariants.{WideShift, Refused}

-- running out of memory, of which nothing is reported
abbrev pub no_memory : PrimitiveFault
no_memory = Refused NoMemory

-- no part of the shift of one of these edges is past the limit
abbrev pub AreNarrow : List Arc → Type 0
AreNarrow es = All (λ (e : Arc). IsWithin most_shift e.shift) es

-- a graph in rising order of edges, which is within the limits if its shifts are
pub record IsNearlySmall (P : Graph) : Type 0 where
  pub is_graph : IsGraph P
  pub rising : AreRising P.edges
  pub small : AreNarrow P.edges → IsSmall P

-- the fault is that this edge has a part past the limit
abbrev pub IsWideEdge : Arc → PrimitiveFault → Type 0
IsWideEdge e (WideShift u v s) = (e ≡ arc u v s) × (¬ IsWithin most_shift e.shift)
IsWideEdge e (Refused refusal) = ⊥

-- e is the first of these edges with a part past the limit
pub record IsFirstWide (es : List Arc) (e : Arc) : Type 0 where
  pub place : ℕ
  pub inside : place < length es
  pub stands : slice_index_or es place e ≡ e
  pub narrow : (k : ℕ) (d : Arc) → k < place → IsWithin most_shift (slice_index_or es k d).shift
  pub wide : ¬ IsWithin most_shift e.shift

-- the first edge past the limit is reported, or memory has run out
abbrev pub IsWideFault : List Arc → PrimitiveFault → Type 0
IsWideFault es (WideShift u v s) = IsFirstWide es (arc u v s)
IsWideFault es (Refused refusal) = refusal ≡ NoMemory

-- no edge is past the limit, and a refusal of placing is true of the graph
pub record IsUnplaced (P : Graph) (refusal : Refusal) : Type 0 where
  pub narrow : AreNarrow P.edges
  pub of_placing : IsOfPlacing refusal
  pub is_true : IsTrueOf P refusal

-- the fault is true of the primitive graph: its first edge past the limit, or else why it has no placement within the limits
abbrev pub IsFaultOf : Graph → PrimitiveFault → Type 0
IsFaultOf P (WideShift u v s) = IsFirstWide P.edges (arc u v s)
IsFaultOf P (Refused NoMemory) = Unit {0}
IsFaultOf P (Refused refusal) = IsUnplaced P refusal
