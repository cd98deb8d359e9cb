-- What is due to the bytes that were read is due to their files, and is one.
use Rattle.std.proofs.Common.{◌≡◌, ℕ, List, [], Option, unwrap_or, subst, None, Some, refl, sym, ◌∙◌, arith}
use Rattle.std.specs.Prelude.{unwrap_or}
use Rattle.outside.specs.Held.{Holds}
use Rattle.command_words.specs.Tasks.{Task, archive_named, file_named}
use Rattle.answers.specs.Due.{IsDueWith, bytes_of, IsDueOn}
use Rattle.answers.{specs.Endings.GoesWithText, proofs.CallerLemmas.one_due_answer}
use Rattle.net_report.specs.declared.status.{Status.Status, Status.TheVariants.TooLarge, Status.TheVariants.TooManyBlocks}
use Rattle.net_tool.specs.Run.{AreBytesOf, IsDueOf, HasManyBytes, IsDueOver, IsTooLarge}
use Rattle.net_tool.specs.Laws.{OneAnswer}

-- a file without bytes counts as empty
pub due_over : (task : Task) (holds : Holds) (bytes : List ℕ) (file archive : Option (List ℕ)) → bytes ≡ unwrap_or file []
    → AreBytesOf (file_named task) holds file
    → AreBytesOf (archive_named task) holds archive → (status : Status) (text : List ℕ) → GoesWithText status
    → IsDueWith task (bytes_of task bytes) archive status text → IsDueOf task holds status text
due_over task holds bytes file archive e f a TooLarge text told due = absurd told
due_over task holds bytes file archive e f a TooManyBlocks text told due = absurd told
due_over task holds bytes file archive e f a status text told due =
    (file, archive, f, a, subst (λ b. IsDueWith task (bytes_of task b) archive status text) e due)

-- The answer of a run is one.

module _ (of : List ℕ → List ℕ) where
  -- the bytes of a file are one
  one_file : (name : Option (List ℕ)) (a b : Option (List ℕ)) → AreBytesOf name (Some of) a → AreBytesOf name (Some of) b → a ≡ b
  one_file name a b p q = search arith

  -- and no more than are taken, or more
  not_many : (name : Option (List ℕ)) (a : Option (List ℕ)) → AreBytesOf name (Some of) a → ¬ HasManyBytes name (Some of)
  not_many name a l p = search arith

  -- the file or the archive is too large, or the answer is due to their bytes
  data WayOf (task : Task) (s : Status) (x : List ℕ) : Type 0 where
    Large : s ≡ TooLarge → IsTooLarge task (Some of) → x ≡ [] → WayOf task s x
    Over : IsDueOver task (Some of) s x → WayOf task s x

  -- so it is of each answer
  way_of : (task : Task) (s : Status) (x : List ℕ) → IsDueOf task (Some of) s x → WayOf task s x
  way_of task TooLarge x h = Large refl h.0 h.1
  way_of task s x h = Over h

  -- not both
  not_large : (task : Task) (s : Status) (x : List ℕ) → IsDueOver task (Some of) s x → ¬ IsTooLarge task (Some of)
  not_large task s x k l = search (arith, not_many)

  -- one answer is due to their bytes
  one_over : (task : Task) (s t : Status) (x y : List ℕ) → IsDueOver task (Some of) s x → IsDueOver task (Some of) t y → (s ≡ t) × (x ≡ y)
  one_over task s t x y h k =
      let file = one_file (file_named task) k.0 h.0 k.2 h.2 in
      let archive = one_file (archive_named task) k.1 h.1 k.3 h.3 in
      let there = subst (λ f. IsDueOn task (unwrap_or f []) h.1 t y) file (subst (λ a. IsDueOn task (unwrap_or k.0 []) a t y) archive k.4) in
      one_due_answer task (unwrap_or h.0 []) h.1 s t x y h.4 there

  -- and one in all
  one_way : (task : Task) (s t : Status) (x y : List ℕ) → WayOf task s x → WayOf task t y → (s ≡ t) × (x ≡ y)
  one_way task s t x y (Large e l f) (Large e' l' f') = (e ∙ sym e', f ∙ sym f')
  one_way task s t x y (Large e l f) (Over h) = absurd (not_large task t y h l)
  one_way task s t x y (Over h) (Large e l f) = absurd (not_large task s x h l)
  one_way task s t x y (Over h) (Over k) = one_over task s t x y h k

-- to arguments that ask for no task one answer is due, and so to a task
pub one_answer : OneAnswer
one_answer None of s t x y h k = (h.0 ∙ sym k.0, h.1 ∙ sym k.1)
one_answer (Some task) of s t x y h k = one_way of task s t x y (way_of of task s x h) (way_of of task t y k)
