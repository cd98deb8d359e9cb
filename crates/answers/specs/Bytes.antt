-- The bytes of the files of a task: how many are taken, and when they are within the limits.
use Rattle.std.specs.Prelude.{ℕ, ◌≤◌, List, [], length, Option, None, Some, unwrap_or}
use Rattle.cgd_read.specs.Blocks.{blocks_of, most_blocks}
use Rattle.command_words.specs.Tasks.{Task, Union, Verify, Workload}
use Rattle.net_archive.specs.Archives.{ArchiveView}
use Rattle.archive_answers.specs.ArchiveBytes.{IsArchiveIn}
use Rattle.answers.specs.Due.{bytes_of}
pub use Rattle.archive_answers.specs.ArchiveBytes.{bytes_in, most_bytes}

-- bytes that are no more than are taken
abbrev pub AreFitting : Option (List ℕ) → Type 0
AreFitting None = Unit {0}
AreFitting (Some bytes) = length bytes ≤ most_bytes

-- bytes with no more blocks than are taken, if the task asks for the blocks of a file
abbrev pub HasFewBlocks : Task → List ℕ → Type 0
HasFewBlocks (Union file archive) bytes = Unit {0}
HasFewBlocks (Verify file) bytes = Unit {0}
HasFewBlocks (Workload count) bytes = Unit {0}
HasFewBlocks task bytes = length (blocks_of bytes) ≤ most_blocks

-- the bytes of the file and of the archive that a task names are within their limits, and the archive is one
pub record AreBytesWithin (task : Task) (file archive : Option (List ℕ)) : Type 0 where
  pub file_fits : AreFitting file
  pub archive_fits : AreFitting archive
  pub blocks : HasFewBlocks task (bytes_of task (unwrap_or file []))
  pub entries : ArchiveView
  pub is_archive : IsArchiveIn archive entries
