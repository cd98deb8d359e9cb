-- What is reported of items is one.
use Rattle.std.specs.Prelude.{◌≡◌, ℕ, Bool, List}
use Rattle.keyline_import.specs.Items.{ItemView}
use Rattle.archive_answers.specs.Reports.{IsItemReport}

-- two reports on the same items are one
abbrev pub OneItemReport : Type 0
OneItemReport = (items : List ItemView) (x y : Bool) (s t : List ℕ) → IsItemReport items x s → IsItemReport items y t → (x ≡ y) × (s ≡ t)
