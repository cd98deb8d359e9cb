-- What a run of the tool may answer.
use Rattle.std.specs.Prelude.{ℕ, ◌≡◌, ◌⊎◌, ◌≤◌, ◌<◌, List, [], length, take, Option, None, Some, unwrap_or, codes}
use Rattle.std.specs.Io.KnownBytes.{Appends}
use Rattle.outside.specs.Last.{Last, Failed}
use Rattle.outside.specs.Held.{Holds, Are, HasMore}
use Rattle.command_words.specs.Tasks.{Task, archive_named, file_named, task_of}
use Rattle.outside.specs.declared.shelf.InFault.{InFault}
use Rattle.outside.specs.declared.shelf.InFault.TheVariants as unread
use Rattle.answers.specs.Bytes.{most_bytes}
use Rattle.answers.specs.Due.{IsDueOn}
use Rattle.net_report.specs.declared.status.Status.{Status}
use Rattle.net_report.specs.declared.status.Status.TheVariants.{Usage, ReadFault, WriteFault, TooLarge, NoMemory, TooManyBlocks}

abbrev pub usage_line : List ℕ
usage_line = codes "usage: net_tool COMMAND [FILE] [--archive PATH] [--name NAME] [--cell ROWS]\n"

-- the bytes of a file, if one is named, and no more than are taken
abbrev pub AreBytesOf : Option (List ℕ) → Holds → Option (List ℕ) → Type 0
AreBytesOf None holds bytes = bytes ≡ None
AreBytesOf (Some name) holds None = ⊥
AreBytesOf (Some name) holds (Some bytes) = Are holds name bytes × (length bytes ≤ most_bytes)

-- a file is named, and has more bytes than are taken
abbrev pub HasManyBytes : Option (List ℕ) → Holds → Type 0
HasManyBytes None holds = ⊥
HasManyBytes (Some name) holds = HasMore holds name most_bytes

-- the file, if one is named, has no more bytes than are taken
abbrev pub HasFewBytes : Option (List ℕ) → Holds → Type 0
HasFewBytes name holds = (bytes : Option (List ℕ)) × AreBytesOf name holds bytes

-- the file of the task has too many bytes; or it has not, and its archive has
abbrev pub IsTooLarge : Task → Holds → Type 0
IsTooLarge task holds = HasManyBytes (file_named task) holds ⊎ (HasFewBytes (file_named task) holds × HasManyBytes (archive_named task) holds)

-- the task, of the bytes of its files, has this answer
abbrev pub IsDueOver : Task → Holds → Status → List ℕ → Type 0
IsDueOver task holds status text =
    (file : Option (List ℕ)) × (archive : Option (List ℕ)) × AreBytesOf (file_named task) holds file × AreBytesOf (archive_named task) holds archive
    × IsDueOn task (unwrap_or file []) archive status text

-- this task asks for this answer
abbrev pub IsDueOf : Task → Holds → Status → List ℕ → Type 0
IsDueOf task holds TooLarge text = IsTooLarge task holds × (text ≡ [])
IsDueOf task holds status text = IsDueOver task holds status text

-- these arguments, over these files, ask for this answer
abbrev pub IsDue : Option Task → Holds → Status → List ℕ → Type 0
IsDue None holds status text = (status ≡ Usage) × (text ≡ usage_line)
IsDue (Some task) holds status text = IsDueOf task holds status text

-- the answer was due, and what was written is its text
abbrev pub IsAnswer : List (List ℕ) → Holds → Option (List ℕ) → Option (List ℕ) → Status → Type 0
IsAnswer words holds before after status = (text : List ℕ) × IsDue (task_of words) holds status text × Appends before after text

-- an answer was due, less than its text was written, and there was a cause to stop
abbrev pub IsBroken : List (List ℕ) → Holds → Option (List ℕ) → Option (List ℕ) → ℕ → Type 0
IsBroken words holds before after sure =
    (status : Status) × (text : List ℕ) × (taken : ℕ) × (taken < length text) × IsDue (task_of words) holds status text
    × Appends before after (take taken text) × (sure < length text)

-- the last read failed, of this file
abbrev pub FailedAt : Option (List ℕ) → Last → Type 0
FailedAt None last = ⊥
FailedAt (Some name) last = last ≡ Failed name

-- the last read failed, of the file that the task reads; or of its archive, and the file has no more bytes than are taken
abbrev pub FailedAtTask : Task → Holds → Last → Type 0
FailedAtTask task holds last = FailedAt (file_named task) last ⊎ (HasFewBytes (file_named task) holds × FailedAt (archive_named task) last)

-- the last read failed so, of a file that the arguments name
abbrev pub FailedAtFile : Option Task → Holds → Last → Type 0
FailedAtFile None holds last = ⊥
FailedAtFile (Some task) holds last = FailedAtTask task holds last

-- a status that is an answer
abbrev pub IsAnswered : Status → Type 0
IsAnswered ReadFault = ⊥
IsAnswered WriteFault = ⊥
IsAnswered NoMemory = ⊥
IsAnswered _ = Unit {0}

-- a status that writes nothing
abbrev pub IsSilent : Status → Type 0
IsSilent ReadFault = Unit {0}
IsSilent TooLarge = Unit {0}
IsSilent NoMemory = Unit {0}
IsSilent TooManyBlocks = Unit {0}
IsSilent _ = ⊥

-- how a run ends if a file is not read
abbrev pub status_of : InFault → Status
status_of unread.ReadFault = ReadFault
status_of (unread.TooLarge taken) = TooLarge
status_of unread.NoMemory = NoMemory

-- a file is too large, or the read failed, or memory was refused
abbrev pub IsUnread : Task → Holds → Status → Type 0
IsUnread task holds TooLarge = IsTooLarge task holds
IsUnread task holds ReadFault = Unit {0}
IsUnread task holds NoMemory = Unit {0}
IsUnread task holds _ = ⊥
