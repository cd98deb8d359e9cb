-- The texts that are reported of the components of a net.
use Rattle.std.specs.Prelude.{ℕ, ℤ, ◌+◌, ◌-◌, List, [], ◌∷◌, ◌++◌, length, map, slice_index_or, Result, Ok, Err, codes}
use Rattle.std.specs.Fmt.{signed_decimal}
use Rattle.integers.specs.Vectors.{Vector, parts}
use Rattle.line_text.specs.Numbers.{field_text, list_text}
use Rattle.least_key.specs.AnyNets.{net_view}
use Rattle.least_key.specs.declared.net.Net.{Net}
use Rattle.least_key.specs.declared.refusal.Refusal.{Refusal}
use Rattle.net_components.specs.declared.fault.PartFault.{PartFault}
use Rattle.net_components.specs.declared.fault.PartFault.TheVariants.{LowRank, WideShift, NoMemory}
use Rattle.net_components.specs.declared.parts.Part.{Part}
use Rattle.net_report.specs.Keys.{key_text}
use Rattle.net_report.specs.Numbers.{IsNamed, vertex_text}
use Rattle.net_report.specs.Refusals.{arc_text, refused_text}

-- a component, by its least vertex, with the normal of its closed walks, of dimension dim
abbrev pub low_rank_text : List (List ℕ) → ℕ → ℕ → Vector → List ℕ
low_rank_text names dim u c = codes " u=" ++ vertex_text names u ++ codes " c=" ++ list_text (parts dim c)

-- the place of a part of a shift, and its value
abbrev pub value_text : ℕ → ℤ → List ℕ
value_text c value = field_text (codes " c=") c ++ codes " value=" ++ signed_decimal value

-- the number and the name of a fault; running out of memory has none
abbrev pub fault_name : PartFault → List ℕ
fault_name (LowRank u c) = codes "1 LowRank"
fault_name (WideShift u v s c value) = codes "2 WideShift"
fault_name NoMemory = []

-- what is reported after the name of a fault
abbrev pub fault_details : List (List ℕ) → ℕ → PartFault → List ℕ
fault_details names dim (LowRank u c) = low_rank_text names dim u c
fault_details names dim (WideShift u v s c value) = arc_text names dim u v s ++ value_text c value
fault_details names dim NoMemory = []

-- why a net of dimension dim is not divided into parts
abbrev pub part_fault_text : List (List ℕ) → ℕ → PartFault → List ℕ
part_fault_text names dim fault = codes "components refused " ++ fault_name fault ++ fault_details names dim fault ++ codes "\n"

-- the fault has a line with these names: if there are names, each vertex that is shown has one
abbrev pub HasFaultLine : List (List ℕ) → PartFault → Type 0
HasFaultLine names (LowRank u c) = IsNamed names u
HasFaultLine names (WideShift u v s c value) = IsNamed names u × IsNamed names v
HasFaultLine names NoMemory = ⊥

-- the names of these vertices
abbrev pub names_of : List (List ℕ) → List ℕ → List (List ℕ)
names_of names vertices = map (λ u. slice_index_or names (u - 1) []) vertices

-- the key of a part, or why it is refused; its vertices have the names of the net's
abbrev pub answer_text : List (List ℕ) → Part → Result Net Refusal → List ℕ
answer_text names p (Ok net) = key_text (net_view net).key
answer_text names p (Err refusal) = refused_text (names_of names p.vertices) refusal

-- the number of a part, and how many vertices and copies it has
abbrev pub part_line : ℕ → ℕ → ℕ → List ℕ
part_line number vertices copies =
    field_text (codes "part ") number ++ field_text (codes " vertices=") vertices ++ field_text (codes " copies=") copies ++ codes "\n"

-- the two lines of the part with this number
abbrev pub part_text : List (List ℕ) → ℕ → Part → Result Net Refusal → List ℕ
part_text names number p answer = part_line number (length p.vertices) p.copies ++ answer_text names p answer

-- those of all parts, numbered from this number on
abbrev pub parts_from : List (List ℕ) → ℕ → List Part → List (Result Net Refusal) → List ℕ
parts_from names number [] answers = []
parts_from names number (p ∷ ps) [] = []
parts_from names number (p ∷ ps) (answer ∷ answers) = part_text names number p answer ++ parts_from names (number + 1) ps answers

-- how many parts there are
abbrev pub count_line : ℕ → List ℕ
count_line count = field_text (codes "components ") count ++ codes "\n"

-- and the lines of each
abbrev pub parts_text : List (List ℕ) → List Part → List (Result Net Refusal) → List ℕ
parts_text names ps answers = count_line (length ps) ++ parts_from names 1 ps answers
