-- What holds of the answers of runs.
use Rattle.std.specs.Prelude.{◌≡◌, ℕ, List, Option, Some}
use Rattle.command_words.specs.Tasks.{Task}
use Rattle.net_report.specs.declared.status.Status.{Status}
use Rattle.net_tool.specs.Run.{IsDue}

-- two answers that are due to the same arguments, over files whose bytes the shelf shows, have one status and one text
abbrev pub OneAnswer : Type 0
OneAnswer = (task : Option Task) (of : List ℕ → List ℕ) (s t : Status) (x y : List ℕ) → IsDue task (Some of) s x → IsDue task (Some of) t y → (s ≡ t) × (x ≡ y)
