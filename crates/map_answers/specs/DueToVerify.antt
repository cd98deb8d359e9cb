-- What is due to the command `verify`.
use Rattle.std.specs.Prelude.{◌≡◌, ℕ, ◌==◌, List, [], ◌∷◌, ◌++◌, codes}
use Rattle.std.specs.Fmt.{decimal}
use Rattle.net_certificate.specs.Reading.{HasBadLine}
use Rattle.net_certificate.specs.Checks.{IsChecked}
use Rattle.net_certificate.specs.declared.checking.CheckedMaps.{CheckedMaps}
use Rattle.net_report.specs.Statuses.{ending_of}
use Rattle.net_report.specs.declared.status.Status.{Status}
use Rattle.net_report.specs.declared.status.Status.TheVariants.{Done, SomeRefused, BadMap}

-- the text of a first bad line
abbrev pub bad_line_text : ℕ → List ℕ
bad_line_text line = codes "maps refused line=" ++ (decimal line ++ 10 ∷ [])

-- the bytes are a text of maps, of which this is reported; by the status that goes with it
pub record IsTold (bytes : List ℕ) (status : Status) (text : List ℕ) : Type 0 where
  pub checked : CheckedMaps
  pub is : IsChecked bytes checked
  pub text_is : text ≡ checked.text.items
  pub status_is : status ≡ ending_of (checked.refused == 0)

-- the bytes are no text of maps, and the first bad line is reported
pub record IsBadMap (bytes text : List ℕ) : Type 0 where
  pub line : ℕ
  pub bad : HasBadLine bytes line
  pub text_is : text ≡ bad_line_text line

-- this is due to `verify`, of a file with these bytes
abbrev pub IsDueToVerify : List ℕ → Status → List ℕ → Type 0
IsDueToVerify bytes Done text = IsTold bytes Done text
IsDueToVerify bytes SomeRefused text = IsTold bytes SomeRefused text
IsDueToVerify bytes BadMap text = IsBadMap bytes text
IsDueToVerify bytes status text = ⊥
