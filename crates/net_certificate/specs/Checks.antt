-- What is reported of a text.
use Rattle.std.specs.Prelude.{◌≡◌, ℕ, ◌+◌, ◌≤◌, List, [], Option, None, Some, length}
use Rattle.periodic_net.specs.Graph.{Graph}
use Rattle.line_text.specs.Lines.{Place, rows_text}
use Rattle.map_check.specs.declared.verdict.Verdict.{Verdict}
use Rattle.net_certificate.specs.Items.{ItemView, Maps}
use Rattle.net_certificate.specs.Reading.{IsIn, IsBegun, IsTextOf}
use Rattle.net_certificate.specs.Stages.{Listed, drawing_of}
use Rattle.net_certificate.specs.Results.{AreVerdicts, result_rows, refused_count}
use Rattle.net_certificate.specs.declared.checking.CheckedMaps.{CheckedMaps}

-- these lines, and this number of maps that are refused, report the verdicts on these items
pub record TellsItems (G : Graph) (items : List ItemView) (text : List ℕ) (refused : ℕ) : Type 0 where
  pub verdicts : List (Option Verdict)
  pub are : AreVerdicts G items verdicts
  pub text_is : text ≡ rows_text (result_rows 2 G.dimension verdicts)
  pub refused_is : refused ≡ refused_count verdicts

-- what is reported of maps; if there is no graph it is nothing
abbrev pub Tells : Option Maps → CheckedMaps → Type 0
Tells None checked = (checked.text.items ≡ []) × (checked.refused ≡ 0)
Tells (Some maps) checked = TellsItems maps.first maps.items checked.text.items checked.refused

-- the text is that of maps, and this is reported of them
pub record IsChecked (text : List ℕ) (checked : CheckedMaps) : Type 0 where
  pub maps : Option Maps
  pub is : IsTextOf text maps
  pub tells : Tells maps checked

-- the items that were passed from the one place to the other, and what is reported of them
pub record ArePassed (G : Graph) (start now : Place) (k : ℕ) (text : List ℕ) (refused : ℕ) : Type 0 where
  pub items : List ItemView
  pub at : (whole : List ℕ) → IsBegun G whole start → IsIn whole (Listed (drawing_of G) items) now
  pub tells : TellsItems G items text refused
  pub number : k ≡ length items + 2
  pub few : refused + 2 ≤ k

-- the text ends after these items
pub record AreAll (whole : List ℕ) (G : Graph) (place : Place) (checked : CheckedMaps) : Type 0 where
  pub items : List ItemView
  pub at : IsIn whole (Listed (drawing_of G) items) place
  pub none : place.rest ≡ []
  pub tells : TellsItems G items checked.text.items checked.refused
