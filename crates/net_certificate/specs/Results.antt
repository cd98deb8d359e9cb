-- What is found of the items of a text, and how it is reported.
use Rattle.std.specs.Prelude.{◌≡◌, ℕ, ◌+◌, List, [], ◌∷◌, ◌++◌, Option, None, Some, Bool, true, false, if◌then◌else◌}
use Rattle.periodic_net.specs.Graph.{Graph}
use Rattle.line_text.specs.Lines.{rows_text}
use Rattle.map_check.specs.declared.map.PeriodicMap.{PeriodicMap}
use Rattle.map_check.specs.Verified.{IsVerified}
use Rattle.map_check.specs.declared.verdict.Verdict.{Verdict}
use Rattle.map_check.specs.declared.verdict.Verdict.TheVariants.{Yes, No}
use Rattle.net_certificate.specs.Items.{ItemView, Without, With}
use Rattle.net_certificate.specs.ResultLines.{verdict_row, unproved_row}

-- an item with a map has a true verdict on it, and one without has none
abbrev pub IsVerdictOf : Graph → ItemView → Option Verdict → Type 0
IsVerdictOf G (Without why) None = Unit {0}
IsVerdictOf G (With H map) (Some verdict) = IsVerified G H map.m map.images map.base verdict
IsVerdictOf G item verdict = ⊥

-- so for each item
abbrev pub AreVerdicts : Graph → List ItemView → List (Option Verdict) → Type 0
AreVerdicts G [] [] = Unit {0}
AreVerdicts G (item ∷ items) (verdict ∷ verdicts) = IsVerdictOf G item verdict × AreVerdicts G items verdicts
AreVerdicts G items verdicts = ⊥

-- the line of graph k, if the first net has dimension d
abbrev pub result_row : ℕ → ℕ → Option Verdict → List ℕ
result_row k d None = unproved_row k
result_row k d (Some verdict) = verdict_row k d verdict

-- the lines of graph k and of those after it
abbrev pub result_rows : ℕ → ℕ → List (Option Verdict) → List (List ℕ)
result_rows k d [] = []
result_rows k d (verdict ∷ verdicts) = result_row k d verdict ∷ result_rows (k + 1) d verdicts

-- a verdict refuses its map
abbrev pub is_no : Verdict → Bool
is_no Yes = false
is_no (No fault) = true

-- a map is refused
abbrev pub is_refused : Option Verdict → Bool
is_refused None = false
is_refused (Some verdict) = is_no verdict

-- 1 if it is so
abbrev pub one_where : Bool → ℕ
one_where b = if b then 1 else 0

-- how many are
abbrev pub refused_count : List (Option Verdict) → ℕ
refused_count [] = 0
refused_count (verdict ∷ verdicts) = one_where (is_refused verdict) + refused_count verdicts

-- the line of graph k was put last, and it is reported whether the map to it is refused
pub record HasMapResult (G H : Graph) (map : PeriodicMap) (k : ℕ) (before after : List ℕ) (refused : Bool) : Type 0 where
  pub verdict : Verdict
  pub is : IsVerified G H map.m map.images map.base verdict
  pub text_is : after ≡ before ++ rows_text (verdict_row k G.dimension verdict ∷ [])
  pub refused_is : refused ≡ is_no verdict

-- the line of the item of graph k was put last, and it is reported whether a map of it is refused
pub record HasResult (G : Graph) (k : ℕ) (item : ItemView) (before after : List ℕ) (refused : Bool) : Type 0 where
  pub verdict : Option Verdict
  pub is : IsVerdictOf G item verdict
  pub text_is : after ≡ before ++ rows_text (result_row k G.dimension verdict ∷ [])
  pub refused_is : refused ≡ is_refused verdict
