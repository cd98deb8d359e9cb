-- The lines of a placement.
use Rattle.std.specs.Prelude.{ℕ, zero, suc, ℤ, pos, List, [], ◌++◌, codes}
use Rattle.std.specs.Fmt.{signed_decimal}
use Rattle.integers.specs.Vectors.{parts}
use Rattle.periodic_net.specs.Placement.{base}
use Rattle.quotient_graph.specs.PlacedNets.{PlacedNet}
use Rattle.net_report.specs.Numbers.{vertex_text}
use Rattle.line_text.specs.Numbers.{list_text}

-- where vertex u stands, in units of 1/D0
abbrev pub position_text : List (List ℕ) → PlacedNet → ℕ → List ℕ
position_text names p u = codes "at " ++ vertex_text names u ++ codes " " ++ list_text (parts p.graph.dimension (base p.placement u)) ++ codes "\n"

-- the lines of the vertices 1 to n, in their order
abbrev pub positions_text : List (List ℕ) → PlacedNet → ℕ → List ℕ
positions_text names p zero = []
positions_text names p (suc n) = positions_text names p n ++ position_text names p (suc n)

unfoldable pub placement_word : List ℕ
placement_word = codes "placement D0="

-- the common denominator of the positions
abbrev pub denominator_text : ℤ → List ℕ
denominator_text d0 = placement_word ++ signed_decimal d0 ++ codes "\n"

-- the common denominator, and a line for each vertex
abbrev pub placement_text : List (List ℕ) → PlacedNet → List ℕ
placement_text names p = denominator_text (pos p.placement.denominator) ++ positions_text names p p.graph.vertices
