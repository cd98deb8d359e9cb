-- The number of nets of a workload.
use Rattle.std.proofs.Common.{◌≡◌, ◌∙◌, ℕ, ◌<◌, true, Some, None, Result, Ok, ap, arith, ◌+◌, ◌≤◌, Bool, Option}
use Rattle.std.proofs.lemmas.Bool.{and_parts, cond-true, cond-false, false_from_ne_true, ltb-true}
use Rattle.std.proofs.{lemmas.Fmt.decimal_is_IsNumeral, lemmas.Fmt.parse-decimal, lemmas.Slice.Eq.bytes_eq-Decides}
use Rattle.std.specs.Prelude.{IfSome, if◌then◌else◌, option_map, option_and_then}
use Rattle.std.specs.{Fmt.decimal, Str.Parse.digits_value, Str.Parse.ParsesUnsigned}
use Rattle.command_words.specs.Tasks.{count_of, is_count, Task, Workload, Cover, may_give_cell, task_with, has_empty_word, task_in, task_named}
use Rattle.command_words.specs.Tasks.{task_for, union_with, MakesFew}
use Rattle.command_words.specs.{Words.Text, Words.Said, Views.task_view, declared.tasks.Verb.Verb}
use Rattle.workload.specs.Workload.{most_nets}
use Rattle.net_cover.specs.Cells.{CellView}
use Rattle.command_words.specs.declared.tasks.Task.{Task as TaskInCode}
use Rattle.command_words.specs.declared.tasks.Verb.TheVariants as verb

-- an argument that is reported as the count n spells n, which is small
record Spells (word : Text) (n : ℕ) : Type 0 where
  pub text : word ≡ decimal n
  pub small : n < most_nets + 1

spells : (word : Text) (n : ℕ) → is_count word n ≡ true → Spells word n
spells word n h = search (arith, and_parts, bytes_eq-Decides, ltb-true)

-- its digits have that value
value_is : (word : Text) (n : ℕ) → Spells word n → digits_value 10 word ≡ n
value_is word n s =
    let small = s.small in
    ap (digits_value 10) s.text ∙ (decimal_is_IsNumeral n (omega (arith, small))).1

-- so the number is the one that the argument spells
pub count_is : (word : Text) (n : ℕ) → is_count word n ≡ true → Some n ≡ count_of word
count_is word n h = search (arith, value_is, spells, cond-true)

-- an argument that spells a count is read as it
pub count_parsed : {E : Type 0} (word : Text) (n : ℕ) (r : Result ℕ E) → is_count word n ≡ true → ParsesUnsigned 32 10 word r → r ≡ Ok n
count_parsed word n r h p =
    let s = spells word n h in let small = s.small in
    parse-decimal 32 n word r (omega (arith, small)) (omega (arith, small)) s.text p

-- if the value of its digits is no count, the argument spells none
pub no_count : (word : Text) → (is_count word (digits_value 10 word) ≡ true → ⊥) → None ≡ count_of word
no_count word h = search (arith, cond-false, false_from_ne_true)

-- The nets that arguments ask to make are no more than may be made.

-- a task that is found makes few nets
abbrev IsFewTask : Option Task → Type 0
IsFewTask None = Unit {0}
IsFewTask (Some task) = MakesFew task

-- a number that is found is small
abbrev IsFewCount : Option ℕ → Type 0
IsFewCount None = Unit {0}
IsFewCount (Some n) = n ≤ most_nets

few_if : (b : Bool) (x y : Option Task) → IsFewTask x → IsFewTask y → IsFewTask (if b then x else y)
few_if b x y h k = search arith

few_then : {A : Type 0} (f : A → Option Task) (o : Option A) → ((x : A) → IsFewTask (f x)) → IsFewTask (option_and_then f o)
few_then f o k = search arith

few_file : (make : Text → Task) (o : Option Text) → ((x : Text) → MakesFew (make x)) → IsFewTask (option_map make o)
few_file make o k = search arith

few_count : (o : Option ℕ) → IsFewCount o → IsFewTask (option_map Workload o)
few_count o k = search arith

count_if : (b : Bool) (n : ℕ) → (b ≡ true → n ≤ most_nets) → IsFewCount (if b then Some n else None)
count_if b n k = search arith

none_or : (b : Bool) (o : Option ℕ) → IsFewCount o → IsFewCount (if b then None else o)
none_or b o k = search arith

few_cell : (file : Text) (o : Option CellView) → IsFewTask (option_map (Cover file) o)
few_cell file o = search arith

-- an argument that spells a count spells a small one
small_count : (word : Text) (n : ℕ) → is_count word n ≡ true → n ≤ most_nets
small_count word n h = search (arith, and_parts, ltb-true)

few_word : (o : Option Text) → IsFewCount (option_and_then count_of o)
few_word o = search (arith, count_if, small_count)

few_united : (file : Text) (archive : Option Text) → IsFewTask (union_with file archive)
few_united file archive = search (arith, few_if)

few_with : (v : Verb) (said : Said) → IsFewTask (task_with v said)
few_with v said = grind (arith, few_file, few_if, few_united, few_count, none_or, few_word, few_cell)

-- so does each task
few_for : (v : Verb) (said : Said) → IsFewTask (task_for v said)
few_for v said = few_if (may_give_cell v said.cell) (task_with v said) None (few_with v said) tt

few_named : (o : Option Text) (said : Said) → IsFewTask (task_named o said)
few_named o said = search (arith, few_then, few_for)

few_in : (said : Said) → IsFewTask (task_in said)
few_in said = few_if (has_empty_word said) None (task_named said.command said) tt (few_named said.command said)

-- the task that is found makes few nets
pub few_nets : (said : Said) (found : Option TaskInCode) → option_map task_view found ≡ task_in said → IfSome found (λ task. MakesFew (task_view task))
few_nets said found h = search (arith, few_in)
