-- What is due is one, and ends a task in few ways.
use Rattle.std.specs.Prelude.{◌≡◌, ℕ, ◌≤◌, true, List, [], length, Option, Some, unwrap_or}
use Rattle.cgd_read.specs.Blocks.{blocks_of}
use Rattle.command_words.specs.Tasks.{Task, Migrate, Union}
use Rattle.net_archive.specs.Archives.{ArchiveView}
use Rattle.workload.specs.Workload.{most_nets, workload}
use Rattle.answers.specs.Bytes.{AreBytesWithin}
use Rattle.answers.specs.Due.{HasTooMany, IsDueOn, bytes_of}
use Rattle.answers.specs.Endings.{IsComplete}
use Rattle.net_report.specs.declared.status.Status.{Status}
use Rattle.net_report.specs.declared.status.Status.TheVariants.{BadArchive, TooManyBlocks}
use Rattle.archive_answers.specs.ArchiveBytes.{IsArchiveIn, IsBadArchive}
use Rattle.archive_answers.specs.Unions.{HasManyItems, begins_archive}

-- two answers that are due to a task, of the same bytes of its file and of its archive, have one status and one text
abbrev pub OneDueAnswer : Type 0
OneDueAnswer = (task : Task) (file : List ℕ) (archive : Option (List ℕ)) (s t : Status) (x y : List ℕ) → IsDueOn task file archive s x
    → IsDueOn task file archive t y → (s ≡ t) × (x ≡ y)

-- where the bytes of its files are within their limits, and the archive is one, a task to which an answer is due ends in few ways
abbrev pub FewEndings : Type 0
FewEndings = (task : Task) (file archive : Option (List ℕ)) (s : Status) (x : List ℕ) → AreBytesWithin task file archive
    → IsDueOn task (unwrap_or file []) archive s x → IsComplete (Some task) s

-- of a union whose bytes are within their limits it is the file that is a bad archive, and the file in which too many items begin
pub record UnionEndings : Type 0 where
  pub bad : (name archive_name : List ℕ) (file archive : Option (List ℕ)) (x : List ℕ) → AreBytesWithin (Union name archive_name) file archive
      → IsDueOn (Union name archive_name) (unwrap_or file []) archive BadArchive x
      → (begins_archive (unwrap_or file []) ≡ true) × IsBadArchive (Some (unwrap_or file [])) x
  pub many : (name archive_name : List ℕ) (file archive : Option (List ℕ)) (x : List ℕ)
      → IsDueOn (Union name archive_name) (unwrap_or file []) archive TooManyBlocks x → HasManyItems (unwrap_or file [])

-- an answer is due if too many blocks or items begin; and if an archive is migrated
pub record SomeAnswerIsDue : Type 0 where
  pub many : (task : Task) (file : List ℕ) (archive : Option (List ℕ)) → HasTooMany task (bytes_of task file) → IsDueOn task file archive TooManyBlocks []
  pub migrated : (name : List ℕ) (archive : Option (List ℕ)) (a : ArchiveView) → IsArchiveIn archive a
      → (s : Status) × (x : List ℕ) × IsDueOn (Migrate name) [] archive s x

-- a workload has one block for each of its nets
abbrev pub BlocksOfWorkload : Type 0
BlocksOfWorkload = (n : ℕ) → n ≤ most_nets → length (blocks_of (workload n)) ≡ n
