-- The lines of the symmetries of a net.
use Rattle.std.specs.Prelude.{ℕ, zero, suc, ℤ, pos, List, [], ◌++◌, codes}
use Rattle.std.specs.Fmt.{signed_decimal}
use Rattle.integers.specs.Vectors.{parts}
use Rattle.periodic_net.specs.Placement.{base}
use Rattle.quotient_graph.specs.PlacedNets.{PlacedNet}
use Rattle.line_text.specs.Numbers.{field_text, list_text}
use Rattle.least_key.specs.KeyedNets.{KeyedNet}
use Rattle.primitive_net.specs.declared.fault.PrimitiveFault.{PrimitiveFault}
use Rattle.primitive_net.specs.declared.fault.PrimitiveFault.TheVariants.{WideShift, Refused}
use Rattle.net_operations.specs.Groups.{Group}
use Rattle.net_report.specs.{Keys.key_text, Primitives.primitive_text, Refusals.arc_text, Refusals.refused_text}
use Rattle.symmetry_answers.specs.GroupTexts.{group_text}

-- where a vertex of the primitive graph stands, in units of 1/D of its basis
abbrev pub place_text : PlacedNet → ℕ → List ℕ
place_text p c = field_text (codes "at ") c ++ codes " " ++ list_text (parts p.graph.dimension (base p.placement c)) ++ codes "\n"

-- the lines of the vertices 1 to n, in their order
abbrev pub places_text : PlacedNet → ℕ → List ℕ
places_text p zero = []
places_text p (suc n) = places_text p n ++ place_text p (suc n)

unfoldable pub placement_word : List ℕ
placement_word = codes "placement D="

-- the common denominator of the positions
abbrev pub denominator_text : ℤ → List ℕ
denominator_text d0 = placement_word ++ signed_decimal d0 ++ codes "\n"

-- the placement of the primitive graph
abbrev pub placing_text : PlacedNet → List ℕ
placing_text p = denominator_text (pos p.placement.denominator) ++ places_text p p.graph.vertices

-- the primitive graph, its basis and the key, as they are reported of a net that is identified
abbrev pub cell_text : KeyedNet → List ℕ
cell_text n = primitive_text n.cell ++ key_text n.key

-- the same, and the placement of the primitive graph and its group
abbrev pub symmetry_text : KeyedNet → PlacedNet → Group → List ℕ
symmetry_text n p g = cell_text n ++ placing_text p ++ group_text p.graph.dimension g

-- why the primitive graph of a net of dimension d is not placed; its vertices are told by their numbers
abbrev pub fault_text : ℕ → PrimitiveFault → List ℕ
fault_text d (WideShift u v s) = codes "symmetry " ++ (codes "refused 1 WideShift" ++ arc_text [] d u v s ++ codes "\n")
fault_text d (Refused refusal) = codes "symmetry " ++ refused_text [] refusal

-- the same lines as of a net that has its group, and then the fault
abbrev pub refusing_text : KeyedNet → PrimitiveFault → List ℕ
refusing_text n fault = cell_text n ++ fault_text n.cell.graph.dimension fault
