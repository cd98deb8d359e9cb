-- The words of the arguments: those after `--`, one, an option with its value, and all.
use Rattle.std.proofs.Common.{◌≡◌, ◌∙◌, refl, sym, subst, ℕ, List, [], ◌∷◌, Option, Some, None, true, ap, Bool, is_some, false, cond, codes}
use Rattle.std.proofs.Common.{option_map, arith}
use Rattle.std.specs.{Prelude.option_and_then, Str.IsUtf8, Str.bytes_eq}
use Rattle.clap.specs.Walk.{Waiting, arg_by_index, idle, to_positional, value, walked, used}
use Rattle.clap.specs.Faults.{step_fault, turn_fault, use_fault}
use Rattle.clap.specs.{Words.Row, Words.Text, Lexer.long_of, Lexer.short_of, Kinds.Kinds, Kinds.or_else}
use Rattle.command_words.specs.Words.{Place, Command, Second, Said, read_positional, put, Archive, Name, Cell, Reading, without_wait, is_plain}
use Rattle.command_words.specs.Words.{option_step, option_word, fill_next, read, step, at, fill}
use Rattle.command_words.proofs.Rows.{id_of, rules_list, top, IsSound, Pending, end_fault, end_rows, good_pending, state, IsShown, rule_at, good_used}
use Rattle.command_words.proofs.Rows.{use_once, use_twice, bad_pending, pending_fault, use_none}
use Rattle.command_words.proofs.Walks.{IsMeaning, means_cons, means_nil, means_none, none_nil, walk_at, Stage, First, Next, Full, IsStageOf, IsFilled}
use Rattle.command_words.proofs.Walks.{filled_first, filled_next, place_of, said_full, some_kind, turn_bad, none_cons}
use Rattle.command_words.proofs.Turns.{dashes_moved, here, place_named, refused_turn, plain_turn, short_turn, option_moved, option_turn, unknown_turn}
use Rattle.command_words.proofs.Turns.{value_moved, value_turn, dashes_turn, waiting_for, given_moved, given_turn, plain_moved}
use Rattle.command_words.proofs.Looks.{Look, dashes, long, plain, short, found_as, look}
use Rattle.clap.specs.declared.error.kind.ErrorKind.TheVariants as kind

-- when clap refuses an argument after `--`, and where it then stands
trailing_turn : (waiting : Waiting) (position : ℕ) (word : Text) (rows : List Row) (pending : Pending)
    → turn_fault top [] (walk_at waiting position true rows pending) word ≡ step_fault top position (state rows pending) value
trailing_turn waiting position word rows pending = refl

move_is : (waiting : Waiting) (position : ℕ) (word : Text) (rows : List Row) (pending : Pending)
    → walked rules_list [] (walk_at waiting position true rows pending) word
    ≡ to_positional rules_list (arg_by_index rules_list position) word (walk_at waiting position true rows pending) (state rows pending)
unfolding walked
move_is waiting position word rows pending = refl

-- what is pending is refused by any argument after `--`, and at the end
pub bad_trailing : (stage : Stage) (waiting : Waiting) (words : List Text) (rows : List Row) (pending : Pending) → (end_fault rows pending ≡ [] → ⊥)
    → IsMeaning None (walk_at waiting (place_of stage) true rows pending) words
bad_trailing stage waiting [] rows pending bad = none_nil waiting (place_of stage) true rows pending bad
bad_trailing stage waiting (word ∷ words) rows pending bad = means_none _ word words (turn_bad stage rows pending bad)

-- what the arguments after one say
abbrev then : List Text → Option Said → Option Said
then words s = option_and_then (λ s. read_positional s words) s

-- an argument that goes to a place, and the arguments after it
filled_trailing : (from to : Stage) (p : Place) (said : Said) (waiting : Waiting) (word : Text) (words : List Text) (rows : List Row) (pending : Pending)
    → IsFilled from to p said word → IsSound said rows pending
    → IsMeaning (read_positional (put p word said) words) (walk_at idle (place_of to) true (end_rows rows pending) (Some (id_of p, word ∷ []))) words
    → IsMeaning (read_positional said (word ∷ words)) (walk_at waiting (place_of from) true rows pending) (word ∷ words)
filled_trailing from to p said waiting word words rows pending f g later =
    subst (λ (o : Option Said). IsMeaning (then words o) (walk_at waiting (place_of from) true rows pending) (word ∷ words)) (sym f.says)
    (means_cons (read_positional (put p word said) words) _ _ word words
    (trailing_turn waiting (place_of from) word rows pending ∙ f.turn rows pending ∙ g.passes)
    (move_is waiting (place_of from) word rows pending ∙ f.kept true waiting rows pending) later)

-- clap reads the arguments after `--` as they are said
pub trailing : (stage : Stage) (said : Said) (waiting : Waiting) (words : List Text) (rows : List Row) (pending : Pending) → IsStageOf stage said
    → IsSound said rows pending
    → IsMeaning (read_positional said words) (walk_at waiting (place_of stage) true rows pending) words
trailing stage said waiting [] rows pending s g = means_nil said waiting (place_of stage) true rows pending g
trailing First said waiting (word ∷ words) rows pending s g =
    let f = filled_first said word s in
    filled_trailing First Next Command said waiting word words rows pending f g
    (trailing Next (put Command word said) idle words (end_rows rows pending) (Some (id_of Command, word ∷ [])) f.stands
    (good_pending said (end_rows rows pending) Command word g.shows f.free))
trailing Next said waiting (word ∷ words) rows pending s g =
    let f = filled_next said word s in
    filled_trailing Next Full Second said waiting word words rows pending f g
    (trailing Full (put Second word said) idle words (end_rows rows pending) (Some (id_of Second, word ∷ [])) f.stands
    (good_pending said (end_rows rows pending) Second word g.shows f.free))
trailing Full said waiting (word ∷ words) rows pending s g =
    subst (λ (o : Option Said). IsMeaning (then words o) (walk_at waiting 3 true rows pending) (word ∷ words)) (sym (said_full said word s))
    (means_none _ word words (some_kind kind.UnknownArgument [] _ refl))

-- One argument, if all later arguments are read alike.

-- all arguments are text
abbrev pub AreUtf8 : List Text → Type 0
AreUtf8 [] = Unit {0}
AreUtf8 (word ∷ words) = IsUtf8 word × AreUtf8 words

-- the place is that of an option
abbrev pub IsOption : Place → Type 0
IsOption Archive = Unit {0}
IsOption Name = Unit {0}
IsOption Cell = Unit {0}
IsOption _ = ⊥

-- and is one, if it is given
abbrev HasOption : Option Place → Type 0
HasOption None = Unit {0}
HasOption (Some p) = IsOption p

pub named_option : (name : Text) (p : Place) → place_named name ≡ Some p → IsOption p
named_option name p e = subst HasOption e (go (bytes_eq (codes "archive") name) (bytes_eq (codes "name") name) (bytes_eq (codes "cell") name))
  where
    go : (a n c : Bool) → HasOption (cond a (Some Archive) (cond n (Some Name) (cond c (Some Cell) None)))
    go a n c = search arith

pub stands_option : (stage : Stage) (said : Said) (p : Place) (v : Text) → IsOption p → IsStageOf stage said → IsStageOf stage (put p v said)
stands_option stage said p v h k = search arith

-- the walk stands if this is said
pub record IsWaiting (said : Said) (p : Place) (rows : List Row) (pending : Pending) : Type 0 where
  pub shows : IsShown said rows
  pub empty : pending ≡ Some (id_of p, [])
  pub is_option : IsOption p

-- the walk stands if this is said, and this option waits
abbrev pub IsReady : Stage → Said → Option Place → List Row → Pending → Type 0
IsReady stage said None rows pending = IsStageOf stage said × IsSound said rows pending
IsReady stage said (Some p) rows pending = IsStageOf stage said × IsWaiting said p rows pending

-- from every place of the walk clap reads the arguments as they are said
abbrev pub AreReadAlike : List Text → Type 0
AreReadAlike words = (stage : Stage) (said : Said) (wanted : Option Place) (rows : List Row) (pending : Pending) → IsReady stage said wanted rows pending
    → IsMeaning (read said wanted words) (here wanted (place_of stage) rows pending) words

-- what later arguments say after one
abbrev pub next : List Text → Option Reading → Option Said
next words = option_and_then (λ r. read r.0 r.1 words)

-- what the arguments say, by whether the first is `--`
abbrev read_by : Bool → Option Reading → Said → Option Place → List Text → Option Said
read_by d s said wanted words = cond d (cond (is_some wanted) None (read_positional said words)) (next words s)

pub read_as : (said : Said) (wanted : Option Place) (word : Text) (words : List Text) (s : Option Reading) → bytes_eq word (45 ∷ 45 ∷ []) ≡ false
    → step said wanted word ≡ s
    → read said wanted (word ∷ words) ≡ next words s
read_as said wanted word words s ed es = ap (λ (d : Bool). read_by d (step said wanted word) said wanted words) ed ∙ ap (next words) es

pub read_dashes : (said : Said) (wanted : Option Place) (word : Text) (words : List Text) → bytes_eq word (45 ∷ 45 ∷ []) ≡ true
    → read said wanted (word ∷ words) ≡ cond (is_some wanted) None (read_positional said words)
read_dashes said wanted word words ed = ap (λ (d : Bool). read_by d (step said wanted word) said wanted words) ed

-- the arguments make up what is said, from this stage on
abbrev pub IsMeaningAt : Option Said → Stage → Option Place → List Row → Pending → List Text → Type 0
IsMeaningAt said stage wanted rows pending words = IsMeaning said (here wanted (place_of stage) rows pending) words

pub as_read : (a b : Option Said) (stage : Stage) (wanted : Option Place) (rows : List Row) (pending : Pending) (words : List Text) → a ≡ b
    → IsMeaningAt b stage wanted rows pending words → IsMeaningAt a stage wanted rows pending words
as_read a b stage wanted rows pending words e m = subst (λ (o : Option Said). IsMeaningAt o stage wanted rows pending words) (sym e) m

-- an argument that is no option and not plain says nothing
pub no_step : (said : Said) (word : Text) → option_word word ≡ None → is_plain word ≡ false → step said None word ≡ None
no_step said word eo ep = ap (option_step said word) eo ∙ ap (λ (b : Bool). cond b (option_map without_wait (fill_next word said)) None) ep

pub plain_step : (said : Said) (word : Text) (s : Option Said) → option_word word ≡ None → is_plain word ≡ true → fill_next word said ≡ s
    → step said None word ≡ option_map without_wait s
plain_step said word s eo ep es = cc

-- what is pending is refused, however the arguments go on
pub bad_idle : (stage : Stage) (words : List Text) (rows : List Row) (pending : Pending) → ((word : Text) → IsUtf8 word → Look word) → AreUtf8 words
    → (end_fault rows pending ≡ [] → ⊥) → IsMeaningAt None stage None rows pending words
bad_idle stage [] rows pending look u bad = none_nil idle (place_of stage) false rows pending bad
bad_idle stage (word ∷ words) rows pending look u bad = go (look word u.0)
  where
    go : Look word → IsMeaningAt None stage None rows pending (word ∷ words)
    go (dashes ed) = none_cons _ _ word words (dashes_moved None (place_of stage) word rows pending ed) (bad_trailing stage idle words rows pending bad)
    go (long name v ed el eo ep) = means_none _ word words (refused_turn None (place_of stage) word rows pending name v ed el bad)
    go (short x flags c ed el es first eo ep) = means_none _ word words (short_turn None (place_of stage) word rows pending ed el x flags c es first)
    go (plain ed el es eo ep) = means_none _ word words (λ e. turn_bad stage rows pending bad
        (sym (plain_turn (place_of stage) word rows pending ed el es) ∙ e))

-- Clap reads the arguments as they are said.

-- a place that is filled twice, or once
pub fill_twice : (p : Place) (v : Text) (said : Said) → is_some (at said p) ≡ true → option_map without_wait (fill p v said) ≡ None
fill_twice p v said e = ap (λ (b : Bool). option_map without_wait (cond b None (Some (put p v said)))) e

pub fill_once : (p : Place) (v : Text) (said : Said) → is_some (at said p) ≡ false → option_map without_wait (fill p v said) ≡ Some (put p v said, None)
fill_once p v said e = ap (λ (b : Bool). option_map without_wait (cond b None (Some (put p v said)))) e

-- an option, or an argument like one
module _ (stage : Stage) (said : Said) (word : Text) (words : List Text) (later : AreReadAlike words) (rows : List Row) (pending : Pending)
    (s : IsStageOf stage said) (g : IsSound said rows pending)
    (name : Text) (ed : bytes_eq word (45 ∷ 45 ∷ []) ≡ false) where
  unknown : (v : Option Text) → long_of word ≡ Some (name, v) → option_word word ≡ found_as v (place_named name) → is_plain word ≡ false
      → place_named name ≡ None
      → IsMeaningAt (read said None (word ∷ words)) stage None rows pending (word ∷ words)
  unknown v el eo ep ef = as_read _ None stage None rows pending (word ∷ words)
      (read_as said None word words None ed (no_step said word (eo ∙ ap (found_as v) ef) ep))
      (means_none _ word words (unknown_turn None (place_of stage) word rows pending name v ed el ef))

  option_alone : (p : Place) → long_of word ≡ Some (name, None) → option_word word ≡ found_as None (place_named name) → place_named name ≡ Some p
      → IsMeaningAt (read said None (word ∷ words)) stage None rows pending (word ∷ words)
  option_alone p el eo ef = as_read _ (read said (Some p) words) stage None rows pending (word ∷ words)
      (read_as said None word words (Some (said, Some p)) ed (ap (option_step said word) (eo ∙ ap (found_as None) ef)))
      (means_cons (read said (Some p) words) _ _ word words
      (option_turn None (place_of stage) word rows pending name ed p ef g.passes el)
      (option_moved None (place_of stage) word rows pending name ed p ef g.passes el)
      (later stage said (Some p) (end_rows rows pending) (Some (id_of p, []))
      (s, record { shows = g.shows; empty = refl; is_option = named_option name p ef })))

  option_given : (p : Place) (v : Text) → long_of word ≡ Some (name, Some v) → option_word word ≡ found_as (Some v) (place_named name)
      → place_named name ≡ Some p
      → IsMeaningAt (read said None (word ∷ words)) stage None rows pending (word ∷ words)
  option_given p v el eo ef = go (is_some (at said p)) refl
    where
      step_is : step said None word ≡ option_map without_wait (fill p v said)
      step_is = ap (option_step said word) (eo ∙ ap (found_as (Some v)) ef)

      turn_is : turn_fault top [] (here None (place_of stage) rows pending) word ≡ or_else (use_fault false (rule_at p) (v ∷ []) (end_rows rows pending)) []
      turn_is = value_turn None (place_of stage) word rows pending name ed p ef g.passes v el

      go : (b : Bool) → is_some (at said p) ≡ b → IsMeaningAt (read said None (word ∷ words)) stage None rows pending (word ∷ words)
      go true e = as_read _ None stage None rows pending (word ∷ words)
          (read_as said None word words None ed (step_is ∙ fill_twice p v said e))
          (means_none _ word words (some_kind kind.ArgumentConflict [] _
          (turn_is ∙ ap (λ (k : Kinds). or_else k []) (use_twice p v (end_rows rows pending) ((g.shows p).has ∙ e)))))
      go false e = as_read _ (read (put p v said) None words) stage None rows pending (word ∷ words)
          (read_as said None word words (Some (put p v said, None)) ed (step_is ∙ fill_once p v said e))
          (means_cons (read (put p v said) None words) _ _ word words
          (turn_is ∙ ap (λ (k : Kinds). or_else k []) (use_once p v (end_rows rows pending) ((g.shows p).has ∙ e)))
          (value_moved None (place_of stage) word rows pending name ed p ef g.passes v el)
          (later stage (put p v said) None (used (rule_at p) (v ∷ []) (end_rows rows pending)) None
          (stands_option stage said p v (named_option name p ef) s, good_used said (end_rows rows pending) p v g.shows e)))

  pub long_read : (v : Option Text) → long_of word ≡ Some (name, v) → option_word word ≡ found_as v (place_named name) → is_plain word ≡ false
      → IsMeaningAt (read said None (word ∷ words)) stage None rows pending (word ∷ words)
  long_read v el eo ep = go v (place_named name) el eo refl
    where
      go : (v : Option Text) (found : Option Place) → long_of word ≡ Some (name, v) → option_word word ≡ found_as v (place_named name)
          → place_named name ≡ found
          → IsMeaningAt (read said None (word ∷ words)) stage None rows pending (word ∷ words)
      go v None el eo ef = unknown v el eo ep ef
      go None (Some p) el eo ef = option_alone p el eo ef
      go (Some v) (Some p) el eo ef = option_given p v el eo ef

-- Clap reads all arguments as they are said.

-- a positional argument
module _ (said : Said) (word : Text) (words : List Text) (later : AreReadAlike words) (rows : List Row) (pending : Pending) (g : IsSound said rows pending)
    (ed : bytes_eq word (45 ∷ 45 ∷ []) ≡ false) (el : long_of word ≡ None) (es : short_of word ≡ None) (eo : option_word word ≡ None)
    (ep : is_plain word ≡ true) where
  -- that goes to a place
  filled_read : (from to : Stage) (p : Place) → IsFilled from to p said word → IsMeaningAt (read said None (word ∷ words)) from None rows pending (word ∷ words)
  filled_read from to p f = as_read _ (read (put p word said) None words) from None rows pending (word ∷ words)
      (read_as said None word words (Some (put p word said, None)) ed (plain_step said word (Some (put p word said)) eo ep f.says))
      (means_cons (read (put p word said) None words) _ _ word words
      (plain_turn (place_of from) word rows pending ed el es ∙ f.turn rows pending ∙ g.passes)
      (plain_moved (place_of from) word rows pending ed el es ∙ f.kept false idle rows pending)
      (later to (put p word said) None (end_rows rows pending) (Some (id_of p, word ∷ []))
      (f.stands, good_pending said (end_rows rows pending) p word g.shows f.free)))

  -- at each stage
  plain_read : (stage : Stage) → IsStageOf stage said → IsMeaningAt (read said None (word ∷ words)) stage None rows pending (word ∷ words)
  plain_read First s = filled_read First Next Command (filled_first said word s)
  plain_read Next s = filled_read Next Full Second (filled_next said word s)
  plain_read Full s = as_read _ None Full None rows pending (word ∷ words)
      (read_as said None word words None ed (plain_step said word None eo ep (said_full said word s)))
      (means_none _ word words (some_kind kind.UnknownArgument [] _ (plain_turn 3 word rows pending ed el es)))

-- an argument if no value is awaited
idle_read : (stage : Stage) (said : Said) (word : Text) (words : List Text) (rows : List Row) (pending : Pending) → AreReadAlike words → Look word
    → IsStageOf stage said → IsSound said rows pending → IsMeaningAt (read said None (word ∷ words)) stage None rows pending (word ∷ words)
idle_read stage said word words rows pending later (dashes ed) s g = as_read _ (read_positional said words) stage None rows pending (word ∷ words)
    (read_dashes said None word words ed)
    (means_cons (read_positional said words) _ _ word words (dashes_turn None (place_of stage) word rows pending ed)
    (dashes_moved None (place_of stage) word rows pending ed)
    (trailing stage said idle words rows pending s g))
idle_read stage said word words rows pending later (long name v ed el eo ep) s g = long_read stage said word words later rows pending s g name ed v el eo ep
idle_read stage said word words rows pending later (short x flags c ed el es first eo ep) s g = as_read _ None stage None rows pending (word ∷ words)
    (read_as said None word words None ed (no_step said word eo ep))
    (means_none _ word words (short_turn None (place_of stage) word rows pending ed el x flags c es first))
idle_read stage said word words rows pending later (plain ed el es eo ep) s g = plain_read said word words later rows pending g ed el es eo ep stage s

value_step : (said : Said) (p : Place) (word : Text) (b : Bool) → is_plain word ≡ b
    → step said (Some p) word ≡ cond b (option_map without_wait (fill p word said)) None
value_step said p word b e = ap (λ (b : Bool). cond b (option_map without_wait (fill p word said)) None) e

-- an option with no value is refused
no_value : (p : Place) (rows : List Row) → end_fault rows (Some (id_of p, [])) ≡ [] → ⊥
no_value p rows e = some_kind kind.InvalidValue [] _ (pending_fault p [] rows ∙ use_none p rows) e

-- an argument if a value is awaited
value_read : (stage : Stage) (said : Said) (p : Place) (word : Text) (words : List Text) (rows : List Row) → AreReadAlike words → AreUtf8 words → Look word
    → IsStageOf stage said → IsWaiting said p rows (Some (id_of p, []))
    → IsMeaningAt (read said (Some p) (word ∷ words)) stage (Some p) rows (Some (id_of p, [])) (word ∷ words)
value_read stage said p word words rows later u (dashes ed) s w = as_read _ None stage (Some p) rows _ (word ∷ words)
    (read_dashes said (Some p) word words ed)
    (none_cons _ _ word words (dashes_moved (Some p) (place_of stage) word rows _ ed)
    (bad_trailing stage (waiting_for (Some p)) words rows _ (no_value p rows)))
value_read stage said p word words rows later u (long name v ed el eo ep) s w = as_read _ None stage (Some p) rows _ (word ∷ words)
    (read_as said (Some p) word words None ed (value_step said p word false ep))
    (means_none _ word words (refused_turn (Some p) (place_of stage) word rows _ name v ed el (no_value p rows)))
value_read stage said p word words rows later u (short x flags c ed el es first eo ep) s w = as_read _ None stage (Some p) rows _ (word ∷ words)
    (read_as said (Some p) word words None ed (value_step said p word false ep))
    (means_none _ word words (short_turn (Some p) (place_of stage) word rows _ ed el x flags c es first))
value_read stage said p word words rows later u (plain ed el es eo ep) s w = go (is_some (at said p)) refl
  where
    go : (b : Bool) → is_some (at said p) ≡ b → IsMeaningAt (read said (Some p) (word ∷ words)) stage (Some p) rows (Some (id_of p, [])) (word ∷ words)
    go true e = as_read _ None stage (Some p) rows _ (word ∷ words)
        (read_as said (Some p) word words None ed (value_step said p word true ep ∙ fill_twice p word said e))
        (none_cons _ _ word words (given_moved p (place_of stage) word rows ed el es)
        (bad_idle stage words rows (Some (id_of p, word ∷ [])) look u (some_kind kind.ArgumentConflict [] _ (bad_pending said rows p word w.shows e))))
    go false e = as_read _ (read (put p word said) None words) stage (Some p) rows _ (word ∷ words)
        (read_as said (Some p) word words (Some (put p word said, None)) ed (value_step said p word true ep ∙ fill_once p word said e))
        (means_cons (read (put p word said) None words) _ _ word words (given_turn p (place_of stage) word rows ed el es)
        (given_moved p (place_of stage) word rows ed el es)
        (later stage (put p word said) None rows (Some (id_of p, word ∷ []))
        (stands_option stage said p word w.is_option s, good_pending said rows p word w.shows e)))

-- from every place of the walk clap reads the arguments as they are said
pub reads : (words : List Text) → AreUtf8 words → AreReadAlike words
reads [] u stage said None rows pending (s, g) = means_nil said idle (place_of stage) false rows pending g
reads [] u stage said (Some p) rows pending (s, w) = none_nil (waiting_for (Some p)) (place_of stage) false rows pending
    (subst (λ (x : Pending). end_fault rows x ≡ [] → ⊥) (sym w.empty) (no_value p rows))
reads (word ∷ words) u stage said None rows pending (s, g) = idle_read stage said word words rows pending (reads words u.1) (look word u.0) s g
reads (word ∷ words) u stage said (Some p) rows pending (s, w) =
    subst (λ (x : Pending). IsMeaningAt (read said (Some p) (word ∷ words)) stage (Some p) rows x (word ∷ words)) (sym w.empty)
    (value_read stage said p word words rows (reads words u.1) u.1 (look word u.0) s (subst (IsWaiting said p rows) w.empty w))
