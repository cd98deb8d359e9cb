-- What is reported of many nets: how many are accepted, and how many different keys they have.
use Rattle.std.specs.Prelude.{◌≡◌, ◌≢◌, ◌↔◌, ℕ, ℤ, Bool, true, false, List, [], ◌++◌, length, filter, Some, codes, AllPairs, Contains}
use Rattle.std.specs.List.{list_all}
use Rattle.cgd_read.specs.Views.{BlockView}
use Rattle.line_text.specs.Numbers.{field_text}
use Rattle.net_report.specs.declared.command.Command.TheVariants.{Key}
use Rattle.block_answers.specs.Deciding.{AreOutcomes, key_told}
use Rattle.net_report.specs.declared.status.Status.{Status}
use Rattle.net_report.specs.declared.status.Status.TheVariants as status
use Rattle.block_answers.specs.Outcomes.{Outcome, is_accepted}

-- a count after its word, on a line of its own
abbrev pub count_text : List ℕ → ℕ → List ℕ
count_text word n = field_text word n ++ codes "\n"

-- so many nets were made, so many of them are accepted, with so many different keys
abbrev pub summary_text : ℕ → ℕ → ℕ → List ℕ
summary_text made accepted keys =
    count_text (codes "workload ") made ++ count_text (codes "accepted ") accepted ++ count_text (codes "keys ") keys

-- these are the different keys that are reported
pub record AreDifferentKeys (outcomes : List Outcome) (keys : List (List ℤ)) : Type 0 where
  pub exact : (xs : List ℤ) → Contains keys xs ↔ ((o : Outcome) × Contains outcomes o × (key_told o.body ≡ Some xs))
  pub once : AllPairs (λ xs ys. xs ≢ ys) keys

-- so many different keys are reported
abbrev pub AreSoManyKeys : List Outcome → ℕ → Type 0
AreSoManyKeys outcomes n = (keys : List (List ℤ)) × AreDifferentKeys outcomes keys × (n ≡ length keys)

-- the summary on these outcomes
pub record IsSummaryText (made : ℕ) (outcomes : List Outcome) (text : List ℕ) : Type 0 where
  pub keys : List (List ℤ)
  pub different : AreDifferentKeys outcomes keys
  pub text_is : text ≡ summary_text made (length (filter is_accepted outcomes)) (length keys)

-- the summary on these blocks, and whether all of them were accepted
pub record IsSummary (made : ℕ) (blocks : List BlockView) (accepted : Bool) (text : List ℕ) : Type 0 where
  pub outcomes : List Outcome
  pub are_outcomes : AreOutcomes Key [] blocks outcomes
  pub all : accepted ≡ list_all is_accepted outcomes
  pub summary : IsSummaryText made outcomes text

-- the summary, by the status that goes with it
abbrev pub IsSummaryAs : ℕ → List BlockView → Status → List ℕ → Type 0
IsSummaryAs made blocks status.Done text = IsSummary made blocks true text
IsSummaryAs made blocks status.SomeRefused text = IsSummary made blocks false text
IsSummaryAs made blocks s text = ⊥
