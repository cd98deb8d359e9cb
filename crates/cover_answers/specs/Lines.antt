-- The lines of a report on covers.
use Rattle.std.specs.Prelude.{ℕ, ℤ, List, [], ◌++◌, codes}
use Rattle.std.specs.Fmt.{signed_decimal}
use Rattle.line_text.specs.Numbers.{field_text}
use Rattle.net_cover.specs.declared.faults.CoverFault.{CoverFault}
use Rattle.net_cover.specs.declared.faults.CoverFault.TheVariants.{CellDimension, CellRank, CoverVertices, CoverEdges, CoverShift, NoMemory}

-- a graph that is covered, by the sizes of its cover
abbrev pub covered_text : ℕ → ℕ → List ℕ
covered_text vertices edges = field_text (codes "covered vertices=") vertices ++ field_text (codes " edges=") edges ++ codes "\n"

-- what stands before a wide part of a new shift
unfoldable pub shift_label : List ℕ
shift_label = codes "5 CoverShift value="

-- a wide part of a new shift
abbrev pub shift_text : ℤ → List ℕ
shift_text value = shift_label ++ signed_decimal value

-- the number and the name of a fault, and its value
abbrev pub fault_text : CoverFault → List ℕ
fault_text CellDimension = codes "1 CellDimension"
fault_text CellRank = codes "2 CellRank"
fault_text (CoverVertices count) = field_text (codes "3 CoverVertices count=") count
fault_text (CoverEdges count) = field_text (codes "4 CoverEdges count=") count
fault_text (CoverShift value) = shift_text value
fault_text NoMemory = []

-- what stands before a fault
unfoldable pub refused_label : List ℕ
refused_label = codes "cover refused "

-- a graph that has no cover, with the fault
abbrev pub refused_text : CoverFault → List ℕ
refused_text fault = refused_label ++ fault_text fault ++ codes "\n"
