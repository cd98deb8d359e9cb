-- What is due to a union is one, and nothing is due to a text of too many items.
use Rattle.std.specs.Prelude.{◌≡◌, ℕ, List, Option}
use Rattle.net_report.specs.declared.status.Status.{Status}
use Rattle.archive_answers.specs.Unions.{HasManyItems, IsUnionDue}

-- two answers that are due to a union, of the same bytes, have one status and one text
abbrev pub OneUnionDue : Type 0
OneUnionDue = (file : List ℕ) (archive : Option (List ℕ)) (s t : Status) (x y : List ℕ) → IsUnionDue file archive s x → IsUnionDue file archive t y
    → (s ≡ t) × (x ≡ y)

-- if too many items begin, no answer is due
abbrev pub ManyItemsAreNotAnswered : Type 0
ManyItemsAreNotAnswered = (file : List ℕ) (archive : Option (List ℕ)) (s : Status) (x : List ℕ) → HasManyItems file → ¬ IsUnionDue file archive s x
