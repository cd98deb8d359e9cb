-- When the headline is true of a run.
use Rattle.std.specs.Prelude.{ℕ, List, Option, Some}
use Rattle.std.specs.Io.KnownBytes.{Appends}
use Rattle.outside.specs.Held.{Holds}
use Rattle.command_words.specs.Tasks.{Task, Identify}
use Rattle.answers.specs.Headline.{Headline}
use Rattle.net_report.specs.declared.status.Status.{Status}
use Rattle.net_tool.specs.Run.{AreBytesOf}

-- the headline is true of the bytes of these two files, and of what was written
pub record IsHeadlineOver (file : List ℕ) (archive : Option (List ℕ)) (holds : Holds) (before after : Option (List ℕ)) (status : Status) : Type 0 where
  pub bytes : List ℕ
  pub file_read : AreBytesOf (Some file) holds (Some bytes)
  pub archive_bytes : Option (List ℕ)
  pub archive_read : AreBytesOf archive holds archive_bytes
  pub text : List ℕ
  pub true_of : Headline bytes archive_bytes status text
  pub written : Appends before after text

-- so it is of each run of `identify` that answers each block
abbrev pub HasHeadline : Option Task → Holds → Option (List ℕ) → Option (List ℕ) → Status → Type 0
HasHeadline (Some (Identify file archive)) holds before after status = IsHeadlineOver file archive holds before after status
HasHeadline task holds before after status = Unit {0}
