-- How a run ends: without a text, with room for each text, and within the limits.
use Rattle.std.proofs.Common.{◌≡◌, ℕ, List, [], ◌∷◌, ◌++◌, Option, None, Some, refl, ap, arith, unwrap_or, subst}
use Rattle.std.specs.Io.KnownBytes.{Appends}
use Rattle.outside.specs.Held.{Holds}
use Rattle.command_words.specs.Tasks.{task_of, Task, archive_named, file_named}
use Rattle.net_tool.specs.Completeness.{HasRoom, AreWithin, AreFilesWithin, bytes_of_name}
use Rattle.net_tool.specs.Run.{IsBroken, AreBytesOf, HasManyBytes, IsAnswer, IsAnswered, IsDue, IsDueOver, IsTooLarge}
use Rattle.answers.{specs.Bytes.AreFitting, specs.Due.IsDueOn, specs.Endings.IsComplete, proofs.CallerLemmas.few_endings}
use Rattle.net_report.specs.declared.status.Status.TheVariants.{TooLarge}
use Rattle.net_report.specs.declared.status.Status.{Status}

-- nothing after a list
nothing_after : (xs : List ℕ) → xs ≡ xs ++ []
nothing_after [] = refl
nothing_after (x ∷ xs) = ap (λ (ys : List ℕ). x ∷ ys) (nothing_after xs)

-- what was written stays
pub appends_nothing : (written : Option (List ℕ)) → Appends written written []
appends_nothing written = search (arith, nothing_after)

-- If there is room for each text that is due, nothing breaks off.

-- a text that broke off was longer than the sink was sure to take
pub no_break : (words : List (List ℕ)) (holds : Holds) (before after : Option (List ℕ)) (sure : ℕ) → IsBroken words holds before after sure
    → HasRoom (task_of words) holds sure → ⊥
no_break words holds before after sure broken room = search arith

-- A run that is within the limits ends in few ways.

-- the bytes that are read are those that are held
read_bytes : (name : Option (List ℕ)) (holds : Holds) (of : List ℕ → List ℕ) → holds ≡ Some of → (bytes : Option (List ℕ)) → AreBytesOf name holds bytes
    → bytes ≡ bytes_of_name of name
read_bytes name holds of k bytes l = search arith

-- a file that fits is not too large
not_many : (name : Option (List ℕ)) (holds : Holds) (of : List ℕ → List ℕ) → holds ≡ Some of → AreFitting (bytes_of_name of name) → HasManyBytes name holds → ⊥
not_many name holds of k l p = search arith

not_too_large : (task : Task) (holds : Holds) → AreFilesWithin task holds → IsTooLarge task holds → ⊥
not_too_large task holds h k = grind (arith, not_many)

-- what is due to the bytes that are held
over : (task : Task) (holds : Holds) (status : Status) (text : List ℕ) → IsDueOver task holds status text → AreFilesWithin task holds
    → IsComplete (Some task) status
over task holds status text due within =
    let file = read_bytes (file_named task) holds within.of within.told due.0 due.2 in
    let archive = read_bytes (archive_named task) holds within.of within.told due.1 due.3 in
    let there = subst (λ f. IsDueOn task (unwrap_or f []) (bytes_of_name within.of (archive_named task)) status text) file
    (subst (λ a. IsDueOn task (unwrap_or due.0 []) a status text) archive due.4) in
    few_endings task (bytes_of_name within.of (file_named task)) (bytes_of_name within.of (archive_named task)) status text within.bytes there

-- what is due to the words
completed : (task : Option Task) (holds : Holds) (status : Status) (text : List ℕ) → IsDue task holds status text → AreWithin task holds
    → IsComplete task status
completed None holds status text due within = absurd within
completed (Some task) holds TooLarge text due within = absurd (not_too_large task holds within due.0)
completed (Some task) holds status text due within = over task holds status text due within

-- if each answer is due
pub complete_of : (words : List (List ℕ)) (holds : Holds) (before after : Option (List ℕ)) (status : Status)
    → (IsAnswered status → IsAnswer words holds before after status)
    → AreWithin (task_of words) holds → IsComplete (task_of words) status
complete_of words holds before after status h k = search (arith, completed)
