-- How clap walks over the arguments, and which positional argument comes next.
use Rattle.std.proofs.Common.{◌≡◌, ◌∙◌, refl, sym, ap, subst, ℕ, Bool, List, [], ◌∷◌, Option, Some, None, false, fold, arith, is_some, true, cond}
use Rattle.clap.specs.Walk.{Held, Waiting, Walk, settled_rows, walked, arg_by_index, idle, to_positional, value}
use Rattle.clap.specs.Faults.{settle_fault, turn_fault, walk_fault, step_fault}
use Rattle.clap.specs.{Words.Row, Words.Text, Kinds.Kinds, Kinds.or_else, declared.error.kind.ErrorKind.ErrorKind}
use Rattle.command_words.specs.Words.{Said, Place, Command, Second, at, fill, fill_next, put}
use Rattle.command_words.proofs.Rows.{IsSound, Pending, end_fault, state, rules_list, top, IsShown, id_of, end_rows, positional_kept, positional_turn}
use Rattle.clap.specs.declared.error.kind.ErrorKind.TheVariants as kind

-- a place of the walk over the arguments
abbrev pub walk_at : Waiting → ℕ → Bool → List Row → Pending → Walk
walk_at waiting position trailing rows pending =
    record { held = state rows pending; waiting = waiting; position = position; is_trailing = trailing; stopped = None }

-- what is held after the arguments
abbrev pub held_after : Walk → List Text → Held
held_after w words = (fold (walked rules_list []) w words).held

-- why clap refuses the arguments from here on
abbrev pub fault_from : Walk → List Text → Kinds
fault_from w words = walk_fault top [] w words

-- clap refuses none of the arguments, and not their end
pub record AreTaken (w : Walk) (words : List Text) : Type 0 where
  pub turns : fault_from w words ≡ []
  pub end : settle_fault rules_list false (held_after w words) ≡ []

-- the arguments from here on make up what is said: if nothing is said clap refuses them, and else it takes them and shows it
abbrev pub IsMeaning : Option Said → Walk → List Text → Type 0
IsMeaning None w words = AreTaken w words → ⊥
IsMeaning (Some said) w words = AreTaken w words × IsShown said (settled_rows rules_list (held_after w words).pending (held_after w words).rows)

-- no fault of two steps is none of either
pub first_empty : (a b : Kinds) → or_else a b ≡ [] → a ≡ []
first_empty a b h = search arith

pub second_empty : (a b : Kinds) → or_else a b ≡ [] → b ≡ []
second_empty a b h = search arith

fault_cons : (w : Walk) (word : Text) (words : List Text) → fault_from w (word ∷ words) ≡ or_else (turn_fault top [] w word)
    (fault_from (walked rules_list [] w word) words)
unfolding walk_fault
fault_cons w word words = refl

fault_nil : (w : Walk) → fault_from w [] ≡ []
unfolding walk_fault
fault_nil w = refl

passes_tail : (w now : Walk) (word : Text) (words : List Text) → walked rules_list [] w word ≡ now → AreTaken w (word ∷ words) → AreTaken now words
passes_tail w now word words is p = subst (λ (x : Walk). AreTaken x words) is (record {
  turns = second_empty _ _ (sym (fault_cons w word words) ∙ p.turns);
  end = p.end;
})

passes_cons : (w now : Walk) (word : Text) (words : List Text) → turn_fault top [] w word ≡ [] → walked rules_list [] w word ≡ now → AreTaken now words
    → AreTaken w (word ∷ words)
passes_cons w now word words turn is p =
    let q : AreTaken (walked rules_list [] w word) words = subst (λ (x : Walk). AreTaken x words) (sym is) p in
    record {
      turns = fault_cons w word words ∙ ap (λ (k : Kinds). or_else k (fault_from (walked rules_list [] w word) words)) turn ∙ q.turns;
      end = q.end;
    }

-- an argument that clap takes
pub means_cons : (said : Option Said) (w now : Walk) (word : Text) (words : List Text) → turn_fault top [] w word ≡ [] → walked rules_list [] w word ≡ now
    → IsMeaning said now words → IsMeaning said w (word ∷ words)
means_cons None w now word words turn is m = λ p. m (passes_tail w now word words is p)
means_cons (Some said) w now word words turn is m = (
  passes_cons w now word words turn is m.0,
  subst (λ (x : Walk). IsShown said (settled_rows rules_list (held_after x words).pending (held_after x words).rows)) (sym is) m.1,
)

-- an argument that clap refuses
pub means_none : (w : Walk) (word : Text) (words : List Text) → (turn_fault top [] w word ≡ [] → ⊥) → IsMeaning None w (word ∷ words)
means_none w word words refused = λ p. refused (first_empty _ _ (sym (fault_cons w word words) ∙ p.turns))

pub none_cons : (w now : Walk) (word : Text) (words : List Text) → walked rules_list [] w word ≡ now → IsMeaning None now words
    → IsMeaning None w (word ∷ words)
none_cons w now word words is m = λ p. m (passes_tail w now word words is p)

pub means_nil : (said : Said) (waiting : Waiting) (position : ℕ) (trailing : Bool) (rows : List Row) (pending : Pending) → IsSound said rows pending
    → IsMeaning (Some said) (walk_at waiting position trailing rows pending) []
means_nil said waiting position trailing rows pending g = (record { turns = fault_nil _; end = g.passes }, g.shows)

-- what is pending is refused at the end
pub none_nil : (waiting : Waiting) (position : ℕ) (trailing : Bool) (rows : List Row) (pending : Pending) → (end_fault rows pending ≡ [] → ⊥)
    → IsMeaning None (walk_at waiting position trailing rows pending) []
none_nil waiting position trailing rows pending bad = λ p. bad p.end

-- Positional arguments: how many were read, and which one comes next.

-- how many positional arguments there were
pub data Stage : Type 0 where
  First : Stage
  Next : Stage
  Full : Stage

-- the number of the next positional argument
abbrev pub place_of : Stage → ℕ
place_of First = 1
place_of Next = 2
place_of Full = 3

-- the places that are filled then
abbrev pub has_command : Stage → Bool
has_command First = false
has_command _ = true

abbrev pub has_second : Stage → Bool
has_second Full = true
has_second _ = false

-- so many positional arguments were said
pub record IsStageOf (stage : Stage) (said : Said) : Type 0 where
  pub command : is_some said.command ≡ has_command stage
  pub second : is_some said.second ≡ has_second stage

-- what a positional argument says where all are said
pub said_full : (said : Said) (word : Text) → IsStageOf Full said → fill_next word said ≡ None
said_full said word s = cc

-- at one stage a positional argument goes to place p, as it is said and as clap holds it, and the other stage follows
pub record IsFilled (from to : Stage) (p : Place) (said : Said) (word : Text) : Type 0 where
  pub free : is_some (at said p) ≡ false
  pub says : fill_next word said ≡ Some (put p word said)
  pub stands : IsStageOf to (put p word said)
  pub turn : (rows : List Row) (pending : Pending) → step_fault top (place_of from) (state rows pending) value ≡ end_fault rows pending
  pub kept : (t : Bool) (waiting : Waiting) (rows : List Row) (pending : Pending)
      → to_positional rules_list (arg_by_index rules_list (place_of from)) word (walk_at waiting (place_of from) t rows pending) (state rows pending)
      ≡ walk_at idle (place_of to) t (end_rows rows pending) (Some (id_of p, word ∷ []))

-- a walk that holds h, if no value is awaited
abbrev walk_with : ℕ → Bool → Held → Walk
walk_with position t h = record { held = h; waiting = idle; position = position; is_trailing = t; stopped = None }

-- the first is the command
pub filled_first : (said : Said) (word : Text) → IsStageOf First said → IsFilled First Next Command said word
filled_first said word s = record {
  free = s.command;
  says = ap (λ (b : Bool). cond b (fill Second word said) (cond b None (Some (put Command word said)))) s.command;
  stands = record { command = refl; second = s.second };
  turn = positional_turn Command;
  kept = kept;
}
  where
    kept : (t : Bool) (waiting : Waiting) (rows : List Row) (pending : Pending)
        → to_positional rules_list (arg_by_index rules_list 1) word (walk_at waiting 1 t rows pending) (state rows pending) ≡ walk_at idle 2 t
        (end_rows rows pending) (Some (id_of Command, word ∷ []))
    kept true waiting rows pending = ap (walk_with 2 true) (positional_kept Command word rows pending)
    kept false waiting rows pending = ap (walk_with 2 false) (positional_kept Command word rows pending)

-- the next is the second
pub filled_next : (said : Said) (word : Text) → IsStageOf Next said → IsFilled Next Full Second said word
filled_next said word s = record {
  free = s.second;
  says = ap (λ (b : Bool). cond b (fill Second word said) (fill Command word said)) s.command
      ∙ ap (λ (b : Bool). cond b None (Some (put Second word said))) s.second;
  stands = record { command = s.command; second = refl };
  turn = positional_turn Second;
  kept = kept;
}
  where
    kept : (t : Bool) (waiting : Waiting) (rows : List Row) (pending : Pending)
        → to_positional rules_list (arg_by_index rules_list 2) word (walk_at waiting 2 t rows pending) (state rows pending) ≡ walk_at idle 3 t
        (end_rows rows pending) (Some (id_of Second, word ∷ []))
    kept true waiting rows pending = ap (walk_with 3 true) (positional_kept Second word rows pending)
    kept false waiting rows pending = ap (walk_with 3 false) (positional_kept Second word rows pending)

pub some_kind : (k : ErrorKind) (ks kinds : Kinds) → kinds ≡ k ∷ ks → kinds ≡ [] → ⊥
some_kind k ks kinds e f = cc

-- a positional argument is refused if what is pending is
pub turn_bad : (stage : Stage) (rows : List Row) (pending : Pending) → (end_fault rows pending ≡ [] → ⊥)
    → step_fault top (place_of stage) (state rows pending) value ≡ [] → ⊥
turn_bad First rows pending bad e = bad (sym (positional_turn Command rows pending) ∙ e)
turn_bad Next rows pending bad e = bad (sym (positional_turn Second rows pending) ∙ e)
turn_bad Full rows pending bad e = some_kind kind.UnknownArgument [] _ refl e
