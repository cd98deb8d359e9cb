-- The headline of what is due to `identify` is true of its files.
use Rattle.std.proofs.Common.{ℕ, List, [], Option, None, Some, unwrap_or, arith}
use Rattle.std.specs.Io.KnownBytes.{Appends}
use Rattle.outside.specs.Held.{Holds}
use Rattle.command_words.specs.Tasks.{Task, Identify, task_of}
use Rattle.answers.{specs.Due.IsDueOn, specs.Headline.IsReported, proofs.CallerLemmas.headline_on}
use Rattle.net_report.specs.declared.status.{Status.Status, Status.TheVariants.Done, Status.TheVariants.SomeRefused}
use Rattle.net_tool.specs.Run.{AreBytesOf, IsAnswer, IsAnswered, IsDue}
use Rattle.net_tool.specs.Headline.{HasHeadline, IsHeadlineOver}

-- and to the bytes of these files
headline_over : (name : List ℕ) (archive_name : Option (List ℕ)) (holds : Holds) (before after : Option (List ℕ)) (status : Status) (text : List ℕ)
    (file archive : Option (List ℕ))
    → AreBytesOf (Some name) holds file → AreBytesOf archive_name holds archive → IsDueOn (Identify name archive_name) (unwrap_or file []) archive status text
    → Appends before after text → IsReported status → IsHeadlineOver name archive_name holds before after status
headline_over name archive_name holds before after status text None archive f a due wrote r = absurd f
headline_over name archive_name holds before after status text (Some bytes) archive f a due wrote r = record {
  bytes = bytes;
  file_read = f;
  archive_bytes = archive;
  archive_read = a;
  text = text;
  true_of = headline_on bytes archive name archive_name status text r due;
  written = wrote;
}

-- and so to the arguments
headline_due : (task : Option Task) (holds : Holds) (before after : Option (List ℕ)) (status : Status) (text : List ℕ) → IsDue task holds status text
    → Appends before after text
    → IsReported status → HasHeadline task holds before after status
headline_due (Some (Identify name archive)) holds before after Done text due wrote r =
    headline_over name archive holds before after Done text due.0 due.1 due.2 due.3 due.4 wrote r
headline_due (Some (Identify name archive)) holds before after SomeRefused text due wrote r =
    headline_over name archive holds before after SomeRefused text due.0 due.1 due.2 due.3 due.4 wrote r
headline_due (Some (Identify name archive)) holds before after status text due wrote r = absurd r
headline_due task holds before after status text due wrote r = tt

-- an answer to the arguments has the headline
pub headline_of : (words : List (List ℕ)) (holds : Holds) (before after : Option (List ℕ)) (status : Status)
    → (IsAnswered status → IsAnswer words holds before after status)
    → IsReported status → HasHeadline (task_of words) holds before after status
headline_of words holds before after status h k = search (arith, headline_due)
