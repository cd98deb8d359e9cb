-- The lines that report what was found of the items of a text.
use Rattle.std.specs.Prelude.{ℕ, List, ◌++◌, codes}
use Rattle.integers.specs.Vectors.{Vector, parts}
use Rattle.line_text.specs.Numbers.{field_text, list_text}
use Rattle.map_check.specs.declared.verdict.Verdict.{Verdict}
use Rattle.map_check.specs.declared.verdict.Verdict.TheVariants.{Yes, No}
use Rattle.map_check.specs.declared.verdict.MapFault.{MapFault}
use Rattle.map_check.specs.declared.verdict.MapFault.TheVariants.{Dimension, Count, Doubled, Degree, Arc}
use Rattle.net_certificate.specs.Rows.{pair_text}

-- a vertex and a vector of dimension d, each after its label
abbrev pub site_text : ℕ → List ℕ → ℕ → List ℕ → Vector → List ℕ
site_text d first u second r = field_text first u ++ (second ++ list_text (parts d r))

unfoldable pub verified_text : List ℕ
verified_text = codes " verified"

unfoldable pub unproved_text : List ℕ
unproved_text = codes " unproved"

-- a fault of a map between nets of dimension d
unfoldable pub fault_text : ℕ → MapFault → List ℕ
fault_text d Dimension = codes " refused 1 Dimension"
fault_text d (Count entries product) =
    field_text (codes " refused 2 Count entries=") entries ++ field_text (codes " product=") product
fault_text d (Doubled u r) = site_text d (codes " refused 3 Doubled u=") u (codes " r=") r
fault_text d (Degree u r) = site_text d (codes " refused 4 Degree u=") u (codes " r=") r
fault_text d (Arc u r v s) =
    site_text d (codes " refused 5 Arc u=") u (codes " r=") r ++ site_text d (codes " v=") v (codes " s=") s

abbrev pub verdict_text : ℕ → Verdict → List ℕ
verdict_text d Yes = verified_text
verdict_text d (No fault) = fault_text d fault

-- the line of graph k, of which there is a map from a net of dimension d
abbrev pub verdict_row : ℕ → ℕ → Verdict → List ℕ
verdict_row k d verdict = pair_text k ++ verdict_text d verdict

-- the line of graph k, of which there is none
abbrev pub unproved_row : ℕ → List ℕ
unproved_row k = pair_text k ++ unproved_text
