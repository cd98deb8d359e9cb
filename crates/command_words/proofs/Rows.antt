-- What clap holds between two arguments: its rules, its rows, and what is pending.
use Rattle.std.proofs.Common.{◌≡◌, refl, List, [], ◌∷◌, Some, None, codes, true, false, ap, Bool, ◌++◌, Option, is_some, cond, ◌||◌, arith, ◌∙◌, sym}
use Rattle.std.proofs.Common.{subst, ◌&&◌}
use Rattle.std.specs.Prelude.{option_and_then, slice_get, find}
use Rattle.std.specs.Str.{bytes_eq}
use Rattle.clap.specs.Words.{Row, Rule, Text, built, is_simple, first_of}
use Rattle.clap.specs.Walk.{arg_by_id, arg_by_index, at_row, has_row, reading_by, used, with_values, without, Held, is_pending, positional_held}
use Rattle.clap.specs.Walk.{pushed, settled_rows, takes_several}
use Rattle.clap.specs.Faults.{is_simple_and_free, use_fault, positional_fault, settle_fault}
use Rattle.clap.specs.{Simple.Shape, Simple.argument_words, declared.parser.matches.ValueSource.TheVariants.CommandLine, Kinds.Kinds, Kinds.or_else}
use Rattle.command_words.specs.Words.{Place, Command, Second, Archive, Name, Cell, Said, at, put, nothing}
use Rattle.command_words.specs.Grammar.{grammar}
use Rattle.clap.specs.declared.error.kind.ErrorKind.TheVariants as kind

-- the grammar, as clap builds it
abbrev pub top : Shape
top = (built grammar).top

-- its arguments, in their order
abbrev pub rules_list : List Rule
rules_list = top.rules

-- the name under which clap keeps a place
abbrev pub id_of : Place → Text
id_of Command = codes "command"
id_of Second = codes "second"
id_of Archive = codes "archive"
id_of Name = codes "name"
id_of Cell = codes "cell"

-- the first argument
abbrev first_rule : List Rule → Rule
first_rule [] = Rattle.clap.specs.Words.new_rule []
first_rule (r ∷ rs) = r

-- the arguments after it
abbrev rest : List Rule → List Rule
rest [] = []
rest (r ∷ rs) = rs

-- the argument of a place
abbrev pub rule_at : Place → Rule
rule_at Command = first_rule rules_list
rule_at Second = first_rule (rest rules_list)
rule_at Archive = first_rule (rest (rest rules_list))
rule_at Name = first_rule (rest (rest (rest rules_list)))
rule_at Cell = first_rule (rest (rest (rest (rest rules_list))))

-- the clauses of clap on plain grammars apply
pub simple : is_simple grammar ≡ true
simple = refl

pub free : is_simple_and_free grammar ≡ true
free = refl

-- an option with no value is refused
pub use_none : (p : Place) (rows : List Row) → use_fault false (rule_at p) [] rows ≡ kind.InvalidValue ∷ []
use_none Command rows = refl
use_none Second rows = refl
use_none Archive rows = refl
use_none Name rows = refl
use_none Cell rows = refl

-- The rows that clap holds, against what is said.

-- what clap holds of a place that was said
abbrev pub row : Place → Text → Row
row p v = record { id = id_of p; values = v ∷ []; count = None; source = Some CommandLine; reading = reading_by (rule_at p) }

-- the row of this id is missing: nothing is changed, and what is missing comes last
pub at_missing : (id : Text) (change : Row → List Row) (missing : List Row) (rows : List Row) → has_row id rows ≡ false
    → at_row id change missing rows ≡ rows ++ missing
at_missing id change missing [] e = refl
at_missing id change missing (r ∷ rs) e = go (at_missing id change missing rs) (bytes_eq r.id id) e
  where
    go : (has_row id rs ≡ false → at_row id change missing rs ≡ rs ++ missing) → (b : Bool) → (b || has_row id rs) ≡ false
        → cond b (change r ++ rs) (r ∷ at_row id change missing rs) ≡ r ∷ (rs ++ missing)
    go h b k = search arith

append_nil : (rows : List Row) → rows ++ [] ≡ rows
append_nil [] = refl
append_nil (r ∷ rs) = ap (λ (xs : List Row). r ∷ xs) (append_nil rs)

used_as_values : (p : Place) (v : Text) (rows : List Row) → used (rule_at p) (v ∷ []) rows ≡ with_values (id_of p) (reading_by (rule_at p)) CommandLine
    (v ∷ []) (without (id_of p) rows)
used_as_values p v rows = grind arith

-- a first use adds a row
pub used_once : (p : Place) (v : Text) (rows : List Row) → has_row (id_of p) rows ≡ false → used (rule_at p) (v ∷ []) rows ≡ rows ++ row p v ∷ []
used_once p v rows e = simp (at_missing, append_nil, used_as_values)

-- the names of rows, if one is added
pub has_more : (id : Text) (rows : List Row) (r : Row) → has_row id (rows ++ r ∷ []) ≡ (has_row id rows || bytes_eq r.id id)
has_more id [] r = go (bytes_eq r.id id)
  where
    go : (b : Bool) → (b || false) ≡ b
    go b = search arith
has_more id (x ∷ xs) r = go (has_more id xs r) (bytes_eq x.id id)
  where
    go : has_row id (xs ++ r ∷ []) ≡ (has_row id xs || bytes_eq r.id id) → (b : Bool)
        → (b || has_row id (xs ++ r ∷ [])) ≡ ((b || has_row id xs) || bytes_eq r.id id)
    go later true = refl
    go later false = later

-- the first value of a row
abbrev value_in : Option Row → Option Text
value_in = option_and_then (λ r. slice_get r.values 0)

-- the value of an id if a row is added
pub first_more : (id : Text) (rows : List Row) (r : Row) → first_of id (rows ++ r ∷ []) ≡ cond (has_row id rows) (first_of id rows) (first_of id (r ∷ []))
first_more id [] r = refl
first_more id (x ∷ xs) r = go (first_more id xs r) (bytes_eq x.id id)
  where
    go : first_of id (xs ++ r ∷ []) ≡ cond (has_row id xs) (first_of id xs) (first_of id (r ∷ [])) → (b : Bool)
        → value_in (cond b (Some x) (find (λ y. bytes_eq y.id id) (xs ++ r ∷ [])))
        ≡ cond (b || has_row id xs) (value_in (cond b (Some x) (find (λ y. bytes_eq y.id id) xs))) (first_of id (r ∷ []))
    go h b = search arith

-- the rows show at each place what is said there
pub record IsShownAt (said : Said) (rows : List Row) (p : Place) : Type 0 where
  pub value : first_of (id_of p) rows ≡ at said p
  pub has : has_row (id_of p) rows ≡ is_some (at said p)

-- the rows show what is said at every place
abbrev pub IsShown : Said → List Row → Type 0
IsShown said rows = (p : Place) → IsShownAt said rows p

-- no row, and nothing said
pub shows_nothing : IsShown nothing []
shows_nothing h = search arith

choice : {X : Type 0} (o : Option X) → cond (is_some o) o None ≡ o
choice o = search arith

-- another place shows what it showed
other : (said now : Said) (rows : List Row) (p q : Place) (v : Text) → IsShownAt said rows q → at said q ≡ at now q
    → first_of (id_of q) (row p v ∷ []) ≡ None → bytes_eq (id_of p) (id_of q) ≡ false → IsShownAt now (rows ++ row p v ∷ []) q
other said now rows p q v s same h apart = grind (arith, first_more, choice, has_more)

-- the place that is filled shows its argument
here : (said now : Said) (rows : List Row) (p : Place) (v : Text) → IsShownAt said rows p → is_some (at said p) ≡ false → Some v ≡ at now p
    → first_of (id_of p) (row p v ∷ []) ≡ Some v → bytes_eq (id_of p) (id_of p) ≡ true → IsShownAt now (rows ++ row p v ∷ []) p
here said now rows p v s empty is one itself = search (arith, first_more, has_more)

-- one more argument that is said is one more row
pub shows_put : (said : Said) (rows : List Row) (p : Place) (v : Text) → IsShown said rows → is_some (at said p) ≡ false
    → IsShown (put p v said) (rows ++ row p v ∷ [])
shows_put said rows Command v s e Command = here said (put Command v said) rows Command v (s Command) e refl refl refl
shows_put said rows Command v s e Second = other said (put Command v said) rows Command Second v (s Second) refl refl refl
shows_put said rows Command v s e Archive = other said (put Command v said) rows Command Archive v (s Archive) refl refl refl
shows_put said rows Command v s e Name = other said (put Command v said) rows Command Name v (s Name) refl refl refl
shows_put said rows Command v s e Cell = other said (put Command v said) rows Command Cell v (s Cell) refl refl refl
shows_put said rows Second v s e Command = other said (put Second v said) rows Second Command v (s Command) refl refl refl
shows_put said rows Second v s e Second = here said (put Second v said) rows Second v (s Second) e refl refl refl
shows_put said rows Second v s e Archive = other said (put Second v said) rows Second Archive v (s Archive) refl refl refl
shows_put said rows Second v s e Name = other said (put Second v said) rows Second Name v (s Name) refl refl refl
shows_put said rows Second v s e Cell = other said (put Second v said) rows Second Cell v (s Cell) refl refl refl
shows_put said rows Archive v s e Command = other said (put Archive v said) rows Archive Command v (s Command) refl refl refl
shows_put said rows Archive v s e Second = other said (put Archive v said) rows Archive Second v (s Second) refl refl refl
shows_put said rows Archive v s e Archive = here said (put Archive v said) rows Archive v (s Archive) e refl refl refl
shows_put said rows Archive v s e Name = other said (put Archive v said) rows Archive Name v (s Name) refl refl refl
shows_put said rows Archive v s e Cell = other said (put Archive v said) rows Archive Cell v (s Cell) refl refl refl
shows_put said rows Name v s e Command = other said (put Name v said) rows Name Command v (s Command) refl refl refl
shows_put said rows Name v s e Second = other said (put Name v said) rows Name Second v (s Second) refl refl refl
shows_put said rows Name v s e Archive = other said (put Name v said) rows Name Archive v (s Archive) refl refl refl
shows_put said rows Name v s e Name = here said (put Name v said) rows Name v (s Name) e refl refl refl
shows_put said rows Name v s e Cell = other said (put Name v said) rows Name Cell v (s Cell) refl refl refl
shows_put said rows Cell v s e Command = other said (put Cell v said) rows Cell Command v (s Command) refl refl refl
shows_put said rows Cell v s e Second = other said (put Cell v said) rows Cell Second v (s Second) refl refl refl
shows_put said rows Cell v s e Archive = other said (put Cell v said) rows Cell Archive v (s Archive) refl refl refl
shows_put said rows Cell v s e Name = other said (put Cell v said) rows Cell Name v (s Name) refl refl refl
shows_put said rows Cell v s e Cell = here said (put Cell v said) rows Cell v (s Cell) e refl refl refl

-- What clap holds between two arguments.

-- an argument whose values are not used yet
abbrev pub Pending : Type 0
Pending = Option (Text × List Text)

-- the rows, and what is pending
abbrev pub state : List Row → Pending → Held
state rows pending = record { rows = rows; pending = pending; skip = 0 }

-- why clap refuses what is pending, if it is used
abbrev pub end_fault : List Row → Pending → Kinds
end_fault rows pending = settle_fault rules_list false (state rows pending)

-- the rows, once what is pending is used
abbrev pub end_rows : List Row → Pending → List Row
end_rows rows pending = settled_rows rules_list pending rows

-- clap refuses nothing so far, and shows what is said
pub record IsSound (said : Said) (rows : List Row) (pending : Pending) : Type 0 where
  pub passes : end_fault rows pending ≡ []
  pub shows : IsShown said (end_rows rows pending)

-- a second value is refused
abbrev set_fault_of : Bool → Kinds
set_fault_of b = or_else (cond (b && true) (kind.ArgumentConflict ∷ []) []) []

fault_is : (p : Place) (v : Text) (rows : List Row) → use_fault false (rule_at p) (v ∷ []) rows ≡ set_fault_of (has_row (id_of p) rows)
fault_is Command v rows = refl
fault_is Second v rows = refl
fault_is Archive v rows = refl
fault_is Name v rows = refl
fault_is Cell v rows = refl

-- a value of an empty place is no fault, and a second value is one
pub use_once : (p : Place) (v : Text) (rows : List Row) → has_row (id_of p) rows ≡ false → use_fault false (rule_at p) (v ∷ []) rows ≡ []
use_once p v rows e = fault_is p v rows ∙ ap set_fault_of e

pub use_twice : (p : Place) (v : Text) (rows : List Row) → has_row (id_of p) rows ≡ true
    → use_fault false (rule_at p) (v ∷ []) rows ≡ kind.ArgumentConflict ∷ []
use_twice p v rows e = fault_is p v rows ∙ ap set_fault_of e

pub pending_fault : (p : Place) (vs : List Text) (rows : List Row) → end_fault rows (Some (id_of p, vs)) ≡ use_fault false (rule_at p) vs rows
pending_fault Command vs rows = refl
pending_fault Second vs rows = refl
pending_fault Archive vs rows = refl
pending_fault Name vs rows = refl
pending_fault Cell vs rows = refl

pub pending_rows : (p : Place) (vs : List Text) (rows : List Row) → end_rows rows (Some (id_of p, vs)) ≡ used (rule_at p) vs rows
pending_rows Command vs rows = refl
pending_rows Second vs rows = refl
pending_rows Archive vs rows = refl
pending_rows Name vs rows = refl
pending_rows Cell vs rows = refl

-- a value of an empty place waits to be used
pub good_pending : (said : Said) (rows : List Row) (p : Place) (v : Text) → IsShown said rows → is_some (at said p) ≡ false
    → IsSound (put p v said) rows (Some (id_of p, v ∷ []))
good_pending said rows p v s e =
    let empty : has_row (id_of p) rows ≡ false = (s p).has ∙ e in
    record {
      passes = pending_fault p (v ∷ []) rows ∙ use_once p v rows empty;
      shows = subst (IsShown (put p v said)) (sym (pending_rows p (v ∷ []) rows ∙ used_once p v rows empty)) (shows_put said rows p v s e);
    }

-- a value of an empty place was used
pub good_used : (said : Said) (rows : List Row) (p : Place) (v : Text) → IsShown said rows → is_some (at said p) ≡ false
    → IsSound (put p v said) (used (rule_at p) (v ∷ []) rows) None
good_used said rows p v s e =
    let empty : has_row (id_of p) rows ≡ false = (s p).has ∙ e in
    record {
      passes = refl;
      shows = subst (IsShown (put p v said)) (sym (used_once p v rows empty)) (shows_put said rows p v s e);
    }

-- a second value of a place is refused when it is used
pub bad_pending : (said : Said) (rows : List Row) (p : Place) (v : Text) → IsShown said rows → is_some (at said p) ≡ true
    → end_fault rows (Some (id_of p, v ∷ [])) ≡ kind.ArgumentConflict ∷ []
bad_pending said rows p v s e = pending_fault p (v ∷ []) rows ∙ use_twice p v rows ((s p).has ∙ e)

and_false : (b : Bool) → (b && false) ≡ false
and_false b = search arith

one_value : (p : Place) → takes_several (rule_at p) ≡ false
one_value p = search arith

never_more : (p : Place) (pending : Pending) → (is_pending (rule_at p) pending && takes_several (rule_at p)) ≡ false
never_more p pending = ap (λ (b : Bool). is_pending (rule_at p) pending && b) (one_value p) ∙ and_false (is_pending (rule_at p) pending)

-- a positional argument first has what was pending used
pub positional_turn : (p : Place) (rows : List Row) (pending : Pending)
    → positional_fault rules_list false (rule_at p) (state rows pending) ≡ end_fault rows pending
positional_turn p rows pending = ap (λ (b : Bool). cond b [] (end_fault rows pending)) (never_more p pending)

rule_id : (p : Place) → (rule_at p).id ≡ id_of p
rule_id p = search arith

pub positional_kept : (p : Place) (word : Text) (rows : List Row) (pending : Pending)
    → positional_held rules_list (rule_at p) word (state rows pending) ≡ state (end_rows rows pending) (Some (id_of p, word ∷ []))
positional_kept p word rows pending =
    ap (λ (b : Bool). pushed (rule_at p).id word (cond b (state rows pending) (state (end_rows rows pending) None))) (never_more p pending)
    ∙ ap (λ (id : Text). state (end_rows rows pending) (Some (id, word ∷ []))) (rule_id p)
