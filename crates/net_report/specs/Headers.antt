-- The lines that a block's text begins with, and the line of its fault.
use Rattle.std.specs.Prelude.{ℕ, List, [], ◌++◌, Option, None, Some, codes, length}
use Rattle.periodic_net.specs.Graph.{Graph}
use Rattle.cgd_read.specs.Faults.{number_of_kind}
use Rattle.cgd_read.specs.declared.block.BlockFault.{BlockFault}
use Rattle.net_report.specs.KindNames.{kind_name}
use Rattle.line_text.specs.Numbers.{field_text}
use Rattle.net_report.specs.declared.outcome.Size.{Size}

-- a name in quotes, after a blank
abbrev pub quoted_name : List ℕ → List ℕ
quoted_name name = codes " \"" ++ name ++ codes "\""

-- the same of the name of a block, if it has one
abbrev pub name_text : Option (List ℕ) → List ℕ
name_text None = []
name_text (Some name) = quoted_name name

-- the number of a block, the line that opens it, and its name
abbrev pub header_text : ℕ → ℕ → Option (List ℕ) → List ℕ
header_text number line name = field_text (codes "net ") number ++ field_text (codes " line ") line ++ name_text name ++ codes "\n"

-- the sizes of a graph, beside the number of its repeated rows
abbrev pub size_in : Graph → ℕ → Size
size_in G repeats = record { dim = G.dimension; vertices = G.vertices; edges = length G.edges; repeats = repeats }

-- their line
abbrev pub size_text : Size → List ℕ
size_text s = field_text (codes "graph d=") s.dim ++ field_text (codes " vertices=") s.vertices ++ field_text (codes " edges=") s.edges
    ++ field_text (codes " repeats=") s.repeats ++ codes "\n"

unfoldable pub unsupported_word : List ℕ
unsupported_word = codes "unsupported "

-- the token that opens a block which is no graph block
abbrev pub unsupported_text : List ℕ → List ℕ
unsupported_text token = unsupported_word ++ token ++ codes "\n"

-- the line of a fault, and the number and the name of its kind
abbrev pub faulty_text : ℕ → ℕ → List ℕ → List ℕ
faulty_text line number kind = field_text (codes "malformed line=") line ++ field_text (codes " ") number ++ codes " " ++ kind ++ codes "\n"

-- the same of the first fault of a graph block
abbrev pub fault_text : BlockFault → List ℕ
fault_text fault = faulty_text fault.line (number_of_kind fault.kind) (kind_name fault.kind)
