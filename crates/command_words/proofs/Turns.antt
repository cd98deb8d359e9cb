-- One turn of the walk, for each kind of word.
use Rattle.std.proofs.Common.{◌≡◌, ◌∙◌, refl, ap, ℕ, Bool, List, [], ◌∷◌, Option, Some, None, true, false, cond, ◌||◌, option_map, arith, sym}
use Rattle.std.specs.{Str.bytes_eq, Str.chars, Prelude.codes, Prelude.slice_get, Option.option_map_or}
use Rattle.clap.specs.Walk.{Held, Step, Waiting, Walk, after_step, arg_by_long, idle, long_or_other, option, trailing, walked, after_flag, long_met}
use Rattle.clap.specs.Walk.{used, arg_by_index, short_or_plain, to_positional, value}
use Rattle.clap.specs.Faults.{flag_word_fault, step_fault, turn_fault, long_fault, option_fault, use_fault, bundle_fault, flags_fault}
use Rattle.clap.specs.Words.{Row, Text, Rule}
use Rattle.clap.specs.{Lexer.long_of, Lexer.short_of, Kinds.Kinds, Kinds.or_else}
use Rattle.command_words.specs.Words.{Place, Archive, Name, Cell, Command, Second}
use Rattle.command_words.proofs.Rows.{id_of, rule_at, rules_list, top, Pending, state, end_fault, end_rows}
use Rattle.command_words.proofs.Walks.{walk_at, first_empty, some_kind}
use Rattle.clap.specs.declared.error.kind.ErrorKind.TheVariants as kind

-- what clap waits for
abbrev pub waiting_for : Option Place → Waiting
waiting_for None = idle
waiting_for (Some p) = option (id_of p)

-- an argument with `--`: its name, and its value after `=`
abbrev pub Long : Type 0
Long = Option (Text × Option Text)

-- the step of clap at an argument, by whether it is `--` and by its name
abbrev pub met : Option Place → Bool → Long → ℕ → Text → Held → Held × Step
met wanted d lo position word h = cond d (h, trailing position) (long_or_other rules_list (waiting_for wanted) word lo h)

-- why clap refuses the argument
abbrev pub turn_by : Option Place → Bool → Long → ℕ → Text → Held → Kinds
turn_by wanted d lo position word h = or_else (cond d [] (flag_word_fault rules_list false lo word h))
    (step_fault top position (met wanted d lo position word h).0 (met wanted d lo position word h).1)

-- a place of the walk before `--`
abbrev pub here : Option Place → ℕ → List Row → Pending → Walk
here wanted position rows pending = walk_at (waiting_for wanted) position false rows pending

turn_is : (wanted : Option Place) (position : ℕ) (word : Text) (rows : List Row) (pending : Pending)
    → turn_fault top [] (here wanted position rows pending) word
    ≡ turn_by wanted (bytes_eq word (45 ∷ 45 ∷ [])) (long_of word) position word (state rows pending)
turn_is None position word rows pending = refl
turn_is (Some p) position word rows pending = refl

-- where the walk then stands
abbrev pub moved_by : Option Place → Bool → Long → ℕ → Text → List Row → Pending → Walk
moved_by wanted d lo position word rows pending = after_step rules_list word (here wanted position rows pending)
    (met wanted d lo position word (state rows pending)).0 (met wanted d lo position word (state rows pending)).1

moved_is : (wanted : Option Place) (position : ℕ) (word : Text) (rows : List Row) (pending : Pending)
    → walked rules_list [] (here wanted position rows pending) word
    ≡ moved_by wanted (bytes_eq word (45 ∷ 45 ∷ [])) (long_of word) position word rows pending
unfolding walked
moved_is None position word rows pending = refl
moved_is (Some p) position word rows pending = refl

module _ (wanted : Option Place) (position : ℕ) (word : Text) (rows : List Row) (pending : Pending) where
  pub turn_as : (d : Bool) (lo : Long) → bytes_eq word (45 ∷ 45 ∷ []) ≡ d → long_of word ≡ lo
      → turn_fault top [] (here wanted position rows pending) word ≡ turn_by wanted d lo position word (state rows pending)
  turn_as d lo ed el = turn_is wanted position word rows pending
      ∙ ap (λ (x : Bool). turn_by wanted x (long_of word) position word (state rows pending)) ed
      ∙ ap (λ (x : Long). turn_by wanted d x position word (state rows pending)) el

  pub moved_as : (d : Bool) (lo : Long) → bytes_eq word (45 ∷ 45 ∷ []) ≡ d → long_of word ≡ lo
      → walked rules_list [] (here wanted position rows pending) word ≡ moved_by wanted d lo position word rows pending
  moved_as d lo ed el = grind (arith, moved_is)

  -- `--`
  pub dashes_turn : bytes_eq word (45 ∷ 45 ∷ []) ≡ true → turn_fault top [] (here wanted position rows pending) word ≡ []
  dashes_turn ed = turn_as true (long_of word) ed refl

  pub dashes_moved : bytes_eq word (45 ∷ 45 ∷ []) ≡ true
      → walked rules_list [] (here wanted position rows pending) word ≡ walk_at (waiting_for wanted) position true rows pending
  dashes_moved ed = moved_as true (long_of word) ed refl

-- the place of an option of this name
abbrev pub place_named : Text → Option Place
place_named name =
    cond (bytes_eq (codes "archive") name) (Some Archive)
    (cond (bytes_eq (codes "name") name) (Some Name) (cond (bytes_eq (codes "cell") name) (Some Cell) None))

-- clap finds the option by its name
pub by_long : (name : Text) → arg_by_long rules_list name ≡ option_map rule_at (place_named name)
by_long name = go (bytes_eq (codes "archive") name) (bytes_eq (codes "name") name) (bytes_eq (codes "cell") name)
  where
    go : (a n c : Bool) → cond (a || false) (Some (rule_at Archive)) (cond (n || false) (Some (rule_at Name)) (cond (c || false) (Some (rule_at Cell)) None))
        ≡ option_map rule_at (cond a (Some Archive) (cond n (Some Name) (cond c (Some Cell) None)))
    go a n c = grind arith

-- An argument that begins with `--` and goes on.

-- the step of clap at an argument with `--`
abbrev after_long : Option Place → Option Rule → Option Text → Text → Held → Held × Step
after_long wanted a v word h = after_flag rules_list (waiting_for wanted) word (long_met rules_list a v h).0 (long_met rules_list a v h).1

-- why clap refuses it, by the option that is found
abbrev long_turn : Option Place → ℕ → Text → List Row → Pending → Option Text → Option Rule → Kinds
long_turn wanted position word rows pending v a = or_else (long_fault rules_list false a v (state rows pending))
    (step_fault top position (after_long wanted a v word (state rows pending)).0 (after_long wanted a v word (state rows pending)).1)

-- where the walk then stands
abbrev long_moved : Option Place → ℕ → Text → List Row → Pending → Option Text → Option Rule → Walk
long_moved wanted position word rows pending v a = after_step rules_list word (here wanted position rows pending)
    (after_long wanted a v word (state rows pending)).0 (after_long wanted a v word (state rows pending)).1

asks : (p : Place) (v : Option Text) (h : Held) → long_fault rules_list false (Some (rule_at p)) v h ≡ option_fault rules_list false (rule_at p) v h
asks Command v h = refl
asks Second v h = refl
asks Archive v h = refl
asks Name v h = refl
asks Cell v h = refl

settles_first : (p : Place) (v : Option Text) (rows : List Row) (pending : Pending) → option_fault rules_list false (rule_at p) v (state rows pending) ≡ []
    → end_fault rows pending ≡ []
settles_first p None rows pending e = e
settles_first p (Some v) rows pending e = first_empty _ _ e

waits_turn : (p : Place) (wanted : Option Place) (position : ℕ) (word : Text) (rows : List Row) (pending : Pending)
    → long_turn wanted position word rows pending None (Some (rule_at p)) ≡ or_else (end_fault rows pending) []
waits_turn Command wanted position word rows pending = refl
waits_turn Second wanted position word rows pending = refl
waits_turn Archive wanted position word rows pending = refl
waits_turn Name wanted position word rows pending = refl
waits_turn Cell wanted position word rows pending = refl

waits_moved : (p : Place) (wanted : Option Place) (position : ℕ) (word : Text) (rows : List Row) (pending : Pending)
    → long_moved wanted position word rows pending None (Some (rule_at p)) ≡ walk_at (option (id_of p)) position false (end_rows rows pending)
    (Some (id_of p, []))
waits_moved Command wanted position word rows pending = refl
waits_moved Second wanted position word rows pending = refl
waits_moved Archive wanted position word rows pending = refl
waits_moved Name wanted position word rows pending = refl
waits_moved Cell wanted position word rows pending = refl

gives_turn : (p : Place) (wanted : Option Place) (position : ℕ) (word v : Text) (rows : List Row) (pending : Pending)
    → long_turn wanted position word rows pending (Some v) (Some (rule_at p))
    ≡ or_else (or_else (end_fault rows pending) (use_fault false (rule_at p) (v ∷ []) (end_rows rows pending))) []
gives_turn Command wanted position word v rows pending = refl
gives_turn Second wanted position word v rows pending = refl
gives_turn Archive wanted position word v rows pending = refl
gives_turn Name wanted position word v rows pending = refl
gives_turn Cell wanted position word v rows pending = refl

gives_moved : (p : Place) (wanted : Option Place) (position : ℕ) (word v : Text) (rows : List Row) (pending : Pending)
    → long_moved wanted position word rows pending (Some v) (Some (rule_at p)) ≡ walk_at idle position false
    (used (rule_at p) (v ∷ []) (end_rows rows pending)) None
gives_moved Command wanted position word v rows pending = refl
gives_moved Second wanted position word v rows pending = refl
gives_moved Archive wanted position word v rows pending = refl
gives_moved Name wanted position word v rows pending = refl
gives_moved Cell wanted position word v rows pending = refl

module _ (wanted : Option Place) (position : ℕ) (word : Text) (rows : List Row) (pending : Pending) (name : Text) (v : Option Text)
    (ed : bytes_eq word (45 ∷ 45 ∷ []) ≡ false)
    (el : long_of word ≡ Some (name, v)) where
  turn_found : (found : Option Place) → place_named name ≡ found
      → turn_fault top [] (here wanted position rows pending) word ≡ long_turn wanted position word rows pending v (option_map rule_at found)
  turn_found found ef = turn_as wanted position word rows pending false (Some (name, v)) ed el
      ∙ ap (long_turn wanted position word rows pending v) (by_long name ∙ ap (option_map rule_at) ef)

  moved_found : (found : Option Place) → place_named name ≡ found
      → walked rules_list [] (here wanted position rows pending) word ≡ long_moved wanted position word rows pending v (option_map rule_at found)
  moved_found found ef = moved_as wanted position word rows pending false (Some (name, v)) ed el
      ∙ ap (long_moved wanted position word rows pending v) (by_long name ∙ ap (option_map rule_at) ef)

  -- no option has the name
  pub unknown_turn : place_named name ≡ None → turn_fault top [] (here wanted position rows pending) word ≡ [] → ⊥
  unknown_turn ef = some_kind kind.UnknownArgument [] _ (turn_found None ef)

  -- what is pending is refused
  pub refused_turn : (end_fault rows pending ≡ [] → ⊥) → turn_fault top [] (here wanted position rows pending) word ≡ [] → ⊥
  refused_turn bad e = go (place_named name) refl
    where
      go : (found : Option Place) → place_named name ≡ found → ⊥
      go None ef = unknown_turn ef e
      go (Some p) ef = bad (settles_first p v rows pending (sym (asks p v (state rows pending)) ∙ first_empty _ _ (sym (turn_found (Some p) ef) ∙ e)))

module _ (wanted : Option Place) (position : ℕ) (word : Text) (rows : List Row) (pending : Pending) (name : Text) (ed : bytes_eq word (45 ∷ 45 ∷ []) ≡ false)
    (p : Place) (ef : place_named name ≡ Some p) (good : end_fault rows pending ≡ []) where
  -- an option alone
  pub option_turn : long_of word ≡ Some (name, None) → turn_fault top [] (here wanted position rows pending) word ≡ []
  option_turn el = turn_found wanted position word rows pending name None ed el (Some p) ef ∙ waits_turn p wanted position word rows pending
      ∙ ap (λ (k : Kinds). or_else k []) good

  pub option_moved : long_of word ≡ Some (name, None)
      → walked rules_list [] (here wanted position rows pending) word ≡ walk_at (option (id_of p)) position false (end_rows rows pending) (Some (id_of p, []))
  option_moved el = moved_found wanted position word rows pending name None ed el (Some p) ef ∙ waits_moved p wanted position word rows pending

  -- an option with its value
  pub value_turn : (v : Text) → long_of word ≡ Some (name, Some v)
      → turn_fault top [] (here wanted position rows pending) word ≡ or_else (use_fault false (rule_at p) (v ∷ []) (end_rows rows pending)) []
  value_turn v el = turn_found wanted position word rows pending name (Some v) ed el (Some p) ef ∙ gives_turn p wanted position word v rows pending
      ∙ ap (λ (k : Kinds). or_else (or_else k (use_fault false (rule_at p) (v ∷ []) (end_rows rows pending))) []) good

  pub value_moved : (v : Text) → long_of word ≡ Some (name, Some v)
      → walked rules_list [] (here wanted position rows pending) word ≡ walk_at idle position false (used (rule_at p) (v ∷ []) (end_rows rows pending)) None
  value_moved v el = moved_found wanted position word rows pending name (Some v) ed el (Some p) ef ∙ gives_moved p wanted position word v rows pending

-- An argument that begins with one `-` and goes on, and one that is no flag.

-- why clap refuses an argument without `--`
abbrev other_turn : Option Place → ℕ → Text → List Row → Pending → Option Text → Kinds
other_turn wanted position word rows pending so = or_else (option_map_or (λ flags. bundle_fault rules_list false flags (state rows pending)) so [])
    (step_fault top position (short_or_plain rules_list (waiting_for wanted) word so (state rows pending)).0
    (short_or_plain rules_list (waiting_for wanted) word so (state rows pending)).1)

-- where the walk then stands
abbrev other_moved : Option Place → ℕ → Text → List Row → Pending → Option Text → Walk
other_moved wanted position word rows pending so = after_step rules_list word (here wanted position rows pending)
    (short_or_plain rules_list (waiting_for wanted) word so (state rows pending)).0
    (short_or_plain rules_list (waiting_for wanted) word so (state rows pending)).1

-- there are no short options
bundle_is : (x : ℕ) (flags : Text) (c : ℕ) (h : Held) → slice_get (chars (x ∷ flags)) 0 ≡ Some c → h.skip ≡ 0
    → bundle_fault rules_list false (x ∷ flags) h ≡ kind.UnknownArgument ∷ []
unfolding flags_fault
bundle_is x flags c h first k = cc

module _ (wanted : Option Place) (position : ℕ) (word : Text) (rows : List Row) (pending : Pending) (ed : bytes_eq word (45 ∷ 45 ∷ []) ≡ false)
    (el : long_of word ≡ None) where
  turn_other : (so : Option Text) → short_of word ≡ so → turn_fault top []
      (here wanted position rows pending) word ≡ other_turn wanted position word rows pending so
  turn_other so es = turn_as wanted position word rows pending false None ed el ∙ ap (other_turn wanted position word rows pending) es

  moved_other : (so : Option Text) → short_of word ≡ so → walked rules_list []
      (here wanted position rows pending) word ≡ other_moved wanted position word rows pending so
  moved_other so es = moved_as wanted position word rows pending false None ed el ∙ ap (other_moved wanted position word rows pending) es

  -- a bundle of flags is refused
  pub short_turn : (x : ℕ) (flags : Text) (c : ℕ) → short_of word ≡ Some (x ∷ flags) → slice_get (chars (x ∷ flags)) 0 ≡ Some c
      → turn_fault top [] (here wanted position rows pending) word ≡ [] → ⊥
  short_turn x flags c es first e =
      some_kind kind.UnknownArgument [] _ (bundle_is x flags c (state rows pending) first refl) (first_empty _ _ (sym (turn_other (Some (x ∷ flags)) es) ∙ e))

module _ (position : ℕ) (word : Text) (rows : List Row) (pending : Pending) (ed : bytes_eq word (45 ∷ 45 ∷ []) ≡ false) (el : long_of word ≡ None)
    (es : short_of word ≡ None) where
  -- a positional argument
  pub plain_turn : turn_fault top [] (here None position rows pending) word ≡ step_fault top position (state rows pending) value
  plain_turn = turn_other None position word rows pending ed el None es

  pub plain_moved : walked rules_list [] (here None position rows pending) word
      ≡ to_positional rules_list (arg_by_index rules_list position) word (here None position rows pending) (state rows pending)
  plain_moved = moved_other None position word rows pending ed el None es

module _ (p : Place) (position : ℕ) (word : Text) (rows : List Row) (ed : bytes_eq word (45 ∷ 45 ∷ []) ≡ false) (el : long_of word ≡ None)
    (es : short_of word ≡ None) where
  no_fault : (p : Place) → other_turn (Some p) position word rows (Some (id_of p, [])) None ≡ []
  no_fault p = cc

  next_walk : (p : Place) → other_moved (Some p) position word rows (Some (id_of p, [])) None ≡ walk_at idle position false rows (Some (id_of p, word ∷ []))
  next_walk Command = refl
  next_walk Second = refl
  next_walk Archive = refl
  next_walk Name = refl
  next_walk Cell = refl

  -- the value of an option
  pub given_turn : turn_fault top [] (here (Some p) position rows (Some (id_of p, []))) word ≡ []
  given_turn = turn_other (Some p) position word rows (Some (id_of p, [])) ed el None es ∙ no_fault p

  pub given_moved : walked rules_list [] (here (Some p) position rows (Some (id_of p, []))) word ≡ walk_at idle position false rows (Some (id_of p, word ∷ []))
  given_moved = moved_other (Some p) position word rows (Some (id_of p, [])) ed el None es ∙ next_walk p
