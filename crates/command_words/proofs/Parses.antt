-- When clap takes the arguments, what it then has, and what is answered.
use Rattle.std.proofs.Common.{◌≡◌, ◌∙◌, refl, sym, ap, subst, Bool, List, [], ◌∷◌, Option, Some, None, false, cond, fold, arith, map, ⊎_elim}
use Rattle.std.{proofs.lemmas.Str.IsUtf8-string_bytes, specs.Prelude.String, specs.Prelude.string_bytes, specs.declared.alloc.Global.Global}
use Rattle.clap.specs.Words.{Row, Rule, Text, matches_of, first_value, kind_of, rows_of}
use Rattle.clap.specs.Walk.{Held, default_rows, finished, has_row, idle, reading_by, settled, settled_rows, walk, with_default}
use Rattle.clap.specs.Faults.{check_fault, default_fault, defaults_fault, fault_of, level_fault}
use Rattle.clap.specs.Kinds.{Kinds, or_else, HasKind, IsAmong}
use Rattle.clap.{specs.Simple.built, specs.declared.error.Error.Error, specs.declared.error.kind.ErrorKind.TheVariants.OutOfMemory}
use Rattle.clap.{specs.declared.parser.matches.Found.Found, proofs.FaultLemmas.leaf_fault, proofs.FaultLemmas.past, proofs.WalkLemmas.first_value-rows}
use Rattle.command_words.specs.Words.{Said, nothing, said_by, Place, Command, Second, Archive, Name, Cell, at}
use Rattle.command_words.proofs.Walks.{IsMeaning, AreTaken, first_empty, held_after, second_empty, walk_at, First}
use Rattle.command_words.proofs.Rows.{rules_list, top, IsShown, shows_nothing, state, id_of}
use Rattle.command_words.{specs.Grammar.grammar, specs.Views.said_in, proofs.Readings.AreUtf8, proofs.Readings.reads}

-- none of the arguments has a default
abbrev HaveNoDefaults : List Rule → Type 0
HaveNoDefaults [] = Unit {0}
HaveNoDefaults (r ∷ rs) = (r.defaults ≡ []) × HaveNoDefaults rs

no_defaults : HaveNoDefaults rules_list
no_defaults = (refl, (refl, (refl, (refl, (refl, tt)))))

no_default : (rows : List Row) (r : Rule) → r.defaults ≡ [] → default_fault rows r ≡ []
no_default rows r e = search arith

no_row : (rows : List Row) (r : Rule) → r.defaults ≡ [] → with_default rows r ≡ rows
no_row rows r e = ap (λ (d : List Text). cond (has_row r.id rows) rows (default_rows r.id (reading_by r) d rows)) e ∙ go (has_row r.id rows)
  where
    go : (b : Bool) → cond b rows rows ≡ rows
    go b = search arith

no_faults : (rules : List Rule) (rows : List Row) → HaveNoDefaults rules → defaults_fault rows rules ≡ []
unfolding defaults_fault
no_faults [] rows b = refl
no_faults (r ∷ rs) rows b = ap (λ (k : Kinds). or_else k (defaults_fault (with_default rows r) rs)) (no_default rows r b.0)
    ∙ no_faults rs (with_default rows r) b.1

no_rows : (rules : List Rule) (rows : List Row) → HaveNoDefaults rules → fold with_default rows rules ≡ rows
no_rows [] rows b = refl
no_rows (r ∷ rs) rows b = ap (λ (x : List Row). fold with_default x rs) (no_row rows r b.0) ∙ no_rows rs rows b.1

-- before the first argument
abbrev start : Rattle.clap.specs.Walk.Walk
start = walk_at idle 1 false [] None

level : (words : List Text) → fault_of grammar words ≡ level_fault top [] (state [] None) words false []
level words = leaf_fault (built grammar) (state [] None) words refl

-- what may be refused after the last argument
abbrev after_walk : Held → Kinds
after_walk h = or_else (defaults_fault (settled rules_list h).rows rules_list) (check_fault top (finished rules_list h) false)

after_none : (h : Held) → after_walk h ≡ []
after_none h = ap (λ (k : Kinds). or_else k (check_fault top (finished rules_list h) false)) (no_faults rules_list (settled rules_list h).rows no_defaults)

-- clap has no fault if and only if it takes the arguments
pub fault_none : (words : List Text) → AreTaken start words → fault_of grammar words ≡ []
fault_none words p = level words
    ∙ past _ _ p.turns
    ∙ past _ _ p.end
    ∙ after_none (held_after start words)

pub passes_from : (words : List Text) → fault_of grammar words ≡ [] → AreTaken start words
passes_from words e =
    let all = sym (level words) ∙ e in
    record { turns = first_empty _ _ all; end = first_empty _ _ (second_empty _ _ all) }

pub rows_are : (words : List Text) → matches_of grammar words ≡ settled_rows rules_list (held_after start words).pending (held_after start words).rows
rows_are words = no_rows rules_list _ no_defaults

-- the arguments make up what they say
means : (words : List Text) → AreUtf8 words → IsMeaning (said_by words) start words
means words u = reads words u First nothing None [] None (record { command = refl; second = refl }, record { passes = refl; shows = shows_nothing })

-- arguments that say something are taken, and clap shows it
pub words_taken : (words : List Text) (said : Said) → AreUtf8 words → said_by words ≡ Some said
    → (fault_of grammar words ≡ []) × IsShown said (matches_of grammar words)
words_taken words said u e =
    let m : IsMeaning (Some said) start words = subst (λ (o : Option Said). IsMeaning o start words) e (means words u) in
    (fault_none words m.0, subst (IsShown said) (sym (rows_are words)) m.1)

-- arguments that say nothing are refused
pub words_refused : (words : List Text) → AreUtf8 words → said_by words ≡ None → fault_of grammar words ≡ [] → ⊥
words_refused words u e f =
    let m : IsMeaning None start words = subst (λ (o : Option Said). IsMeaning o start words) e (means words u) in
    m (passes_from words f)

-- What clap's parse gives: what the arguments say, or that they say nothing.

-- strings are text
pub texts_valid : (words : List (String Global)) → AreUtf8 (map string_bytes words)
texts_valid [] = tt
texts_valid (word ∷ words) = (IsUtf8-string_bytes word, texts_valid words)

-- what clap found is what its rows show
said_is : (found : Found) (said : Said) → IsShown said (rows_of found) → said_in found ≡ said
said_is found said s = λ i. record {
  command = (value Command) i;
  second = (value Second) i;
  archive = (value Archive) i;
  name = (value Name) i;
  cell =
      (value Cell) i;
}
  where
    value : (p : Place) → first_value found (id_of p) ≡ at said p
    value p = first_value-rows found (id_of p) ∙ (s p).value

-- what clap found is what the arguments say
pub said_ok : (found : Found) (words : List Text) → AreUtf8 words → fault_of grammar words ≡ [] → rows_of found ≡ matches_of grammar words
    → Some (said_in found) ≡ said_by words
said_ok found words u passes rows = go (said_by words) refl
  where
    go : (o : Option Said) → said_by words ≡ o → Some (said_in found) ≡ o
    go None e = absurd (words_refused words u e passes)
    go (Some said) e = ap (λ (s : Said). Some s) (said_is found said (subst (IsShown said) (sym rows) (words_taken words said u e).1))

-- arguments that clap refuses say nothing
pub said_none : (words : List Text) → AreUtf8 words → (fault_of grammar words ≡ [] → ⊥) → None ≡ said_by words
said_none words u fails = go (said_by words) refl
  where
    go : (o : Option Said) → said_by words ≡ o → None ≡ o
    go None e = refl
    go (Some said) e = absurd (fails (words_taken words said u e).0)

-- an error other than running out of memory is a fault of the arguments
pub has_fault : (kinds : Kinds) (e : Error) → HasKind kinds e → (kind_of e ≡ OutOfMemory → ⊥) → kinds ≡ [] → ⊥
has_fault kinds e h other none = ⊎_elim (λ m. other m) (λ among. subst (IsAmong (kind_of e)) none among) h
