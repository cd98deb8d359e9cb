-- What is due to `verify` is one.
use Rattle.std.specs.Prelude.{◌≡◌, ℕ, List}
use Rattle.map_answers.specs.DueToVerify.{IsDueToVerify}
use Rattle.net_report.specs.declared.status.Status.{Status}

-- two answers that are due to the same bytes have one status and one text
abbrev pub OneVerification : Type 0
OneVerification = (bytes : List ℕ) (s t : Status) (x y : List ℕ) → IsDueToVerify bytes s x → IsDueToVerify bytes t y → (s ≡ t) × (x ≡ y)
