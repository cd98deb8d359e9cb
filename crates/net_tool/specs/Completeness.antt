-- When a run reports on each block.
use Rattle.std.specs.Prelude.{ℕ, ◌≡◌, ◌≤◌, List, length, Option, None, Some}
use Rattle.outside.specs.Held.{Holds}
use Rattle.command_words.specs.Tasks.{Task, archive_named, file_named}
use Rattle.answers.specs.Bytes.{AreBytesWithin}
use Rattle.answers.specs.Endings.{IsComplete}
use Rattle.net_report.specs.declared.status.Status.{Status}
use Rattle.net_report.specs.declared.status.Status.TheVariants.{ReadFault, WriteFault}
use Rattle.net_tool.specs.Run.{IsDue}

-- the bytes of a file, if one is named
abbrev pub bytes_of_name : (List ℕ → List ℕ) → Option (List ℕ) → Option (List ℕ)
bytes_of_name of None = None
bytes_of_name of (Some name) = Some (of name)

-- the files that a task names are within their limits, and the archive is one
pub record AreFilesWithin (task : Task) (holds : Holds) : Type 0 where
  pub of : List ℕ → List ℕ
  pub told : holds ≡ Some of
  pub bytes : AreBytesWithin task (bytes_of_name of (file_named task)) (bytes_of_name of (archive_named task))

-- the arguments name a task whose files are so
abbrev pub AreWithin : Option Task → Holds → Type 0
AreWithin None holds = ⊥
AreWithin (Some task) holds = AreFilesWithin task holds

-- there is room for the text of each due answer
abbrev pub HasRoom : Option Task → Holds → ℕ → Type 0
HasRoom task holds sure = (status : Status) (text : List ℕ) → IsDue task holds status text → length text ≤ sure

-- how a run may end where the host does not fail either
abbrev pub IsToldWhole : Option Task → Status → Type 0
IsToldWhole task ReadFault = ⊥
IsToldWhole task WriteFault = ⊥
IsToldWhole task status = IsComplete task status
