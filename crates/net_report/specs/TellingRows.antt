-- What the lines of a placement, of a primitive graph, of coordination sequences and of names say.
use Rattle.std.specs.Prelude.{◌≡◌, ◌≢◌, ℕ, ◌+◌, ◌≤◌, ℤ, pos, List, ◌++◌, map, length, All, slice_index_or}
use Rattle.integers.specs.Vectors.{Vector, parts}
use Rattle.periodic_net.specs.{Graph.Arc, Placement.base}
use Rattle.line_text.specs.{Lines.HasNo, Numbers.IsWide}
use Rattle.least_key.specs.KeyedNets.{KeyedNet}
use Rattle.primitive_cell.specs.DividedNets.{DividedNet}
use Rattle.quotient_graph.specs.PlacedNets.{PlacedNet}
use Rattle.net_report.specs.{Identified.found_names_text, Identified.identified_text}
use Rattle.net_report.specs.{Identified.sequences_text, Placements.placement_text, Primitives.primitive_text}
use Rattle.net_report.specs.{Telling.AreEach, Telling.IsShort, Numbers.vertex_text}

-- the first byte of a text, if it has one
abbrev pub first_byte : List ℕ → ℕ
first_byte bs = slice_index_or bs 0 0

-- an edge as it is printed
pub record PrintedEdge : Type 0 where
  pub from : ℕ
  pub to : ℕ
  pub shift : List ℤ

abbrev pub printed_edge : ℕ → Arc → PrintedEdge
printed_edge d e = record { from = e.from; to = e.to; shift = parts d e.shift }

abbrev pub IsLegibleEdge : ℕ → Arc → Type 0
IsLegibleEdge d e = IsShort e.from × IsShort e.to × All IsWide (parts d e.shift)

abbrev pub IsLegibleVector : ℕ → Vector → Type 0
IsLegibleVector d v = All IsWide (parts d v)

-- numbers that are printed whole
abbrev pub AreShort : List ℕ → Type 0
AreShort sizes = AreEach IsShort sizes

-- the positions of the vertices 1 to n, with the names of these vertices
pub record IsLegiblePlacement (names : List (List ℕ)) (p : PlacedNet) : Type 0 where
  pub denominator : IsWide (pos p.placement.denominator)
  pub each : (u : ℕ) → HasNo 10 (vertex_text names u) × All IsWide (parts p.graph.dimension (base p.placement u))

-- two placements of as many vertices, with the same names and dimension, have one denominator and the same positions if their texts are equal
abbrev pub PlacementLinesTell : Type 0
PlacementLinesTell = (names : List (List ℕ)) (p q : PlacedNet) (s t : List ℕ) → p.graph.vertices ≡ q.graph.vertices → p.graph.dimension ≡ q.graph.dimension
    → IsLegiblePlacement names p → IsLegiblePlacement names q → placement_text names p ++ s ≡ placement_text names q ++ t
    → (p.placement.denominator ≡ q.placement.denominator)
    × ((u : ℕ) → 1 ≤ u → u ≤ p.graph.vertices → parts p.graph.dimension (base p.placement u) ≡ parts p.graph.dimension (base q.placement u)) × (s ≡ t)

-- two primitive graphs of one dimension; what follows begins with another byte than b
pub record ArePrintedAlike (d : ℕ) (c e : DividedNet) : Type 0 where
  pub vertices : c.graph.vertices ≡ e.graph.vertices
  pub basis : map (parts d) c.basis ≡ map (parts d) e.basis
  pub edges : map (printed_edge d) c.graph.edges ≡ map (printed_edge d) e.graph.edges

-- the names of an archive
abbrev pub NameLinesTell : Type 0
NameLinesTell = (xs ys : List (List ℕ)) (s t : List ℕ) → AreEach (HasNo 10) xs → AreEach (HasNo 10) ys → IsShort (length xs) → IsShort (length ys)
    → found_names_text xs ++ s ≡ found_names_text ys ++ t → (xs ≡ ys) × (s ≡ t)

-- what is printed of a primitive graph
pub record IsLegibleCell (d : ℕ) (c : DividedNet) : Type 0 where
  pub dimension : c.graph.dimension ≡ d
  pub vertices : IsShort c.graph.vertices
  pub count : IsShort (length c.graph.edges)
  pub basis : AreEach (IsLegibleVector d) c.basis
  pub edges : AreEach (IsLegibleEdge d) c.graph.edges

abbrev pub PrimitiveLinesTell : Type 0
PrimitiveLinesTell = (d : ℕ) (c e : DividedNet) (s t : List ℕ) → IsLegibleCell d c → IsLegibleCell d e → first_byte s ≢ 98 → first_byte t ≢ 98
    → primitive_text c ++ s ≡ primitive_text e ++ t → ArePrintedAlike d c e × (s ≡ t)

-- coordination sequences, the first for the class with this number; what follows begins with another byte than s
abbrev pub SequenceLinesTell : Type 0
SequenceLinesTell = (class : ℕ) (xs ys : List (List ℕ)) (s t : List ℕ) → AreEach AreShort xs → AreEach AreShort ys → IsShort (class + length xs)
    → first_byte s ≢ 115 → first_byte t ≢ 115 → sequences_text class xs ++ s ≡ sequences_text class ys ++ t → (xs ≡ ys) × (s ≡ t)

-- what `identify` prints of a net of dimension d, on lines: numbers are printed whole, and no name has a line feed
pub record IsLegibleNet (d : ℕ) (vertices : List (List ℕ)) (n : KeyedNet) (shells names : List (List ℕ)) : Type 0 where
  pub dimension : n.placed.graph.dimension ≡ d
  pub placement : IsLegiblePlacement vertices n.placed
  pub cell : IsLegibleCell d n.cell
  pub key : All IsWide n.key
  pub are_short : AreEach AreShort shells
  pub classes : IsShort (1 + length shells)
  pub are_names : AreEach (HasNo 10) names
  pub count : IsShort (length names)

-- two nets have one denominator, the same positions, basis, edges, key, coordination sequences and names
pub record AreNetsReportedAlike (d : ℕ) (m n : KeyedNet) (shells shells' names names' : List (List ℕ)) : Type 0 where
  pub denominator : m.placed.placement.denominator ≡ n.placed.placement.denominator
  pub positions : (u : ℕ) → 1 ≤ u → u ≤ m.placed.graph.vertices → parts d (base m.placed.placement u) ≡ parts d (base n.placed.placement u)
  pub cell : ArePrintedAlike d m.cell n.cell
  pub key : m.key ≡ n.key
  pub shells_same : shells ≡ shells'
  pub names_same : names ≡ names'

-- so the lines that `identify` prints after the sizes are those of one net, of vertices with these names
abbrev pub IdentifiedLinesTell : Type 0
IdentifiedLinesTell = (d : ℕ) (vertices : List (List ℕ)) (m n : KeyedNet) (shells shells' names names' : List (List ℕ)) (s t : List ℕ)
    → m.placed.graph.vertices ≡ n.placed.graph.vertices → IsLegibleNet d vertices m shells names → IsLegibleNet d vertices n shells' names'
    → identified_text vertices m shells names ++ s ≡ identified_text vertices n shells' names' ++ t
    → AreNetsReportedAlike d m n shells shells' names names' × (s ≡ t)
