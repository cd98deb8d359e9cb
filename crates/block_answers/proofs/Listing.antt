-- The list of outcomes grows by that of the next block, and the report by its text; what is reported of parts.
use Rattle.std.proofs.Common.{◌≡◌, ◌&&◌, ℕ, suc, ◌+◌, ◌<◌, Bool, true, List, [], ◌∷◌, ◌++◌, length, take, get_or, Result, refl, sym, ap, subst, ◌∙◌, arith}
use Rattle.std.proofs.Common.{◌≤◌, All, add-one}
use Rattle.std.proofs.lemmas.List.{append_assoc, append-nil, length-take-le, get_or-map, length-map, take_all}
use Rattle.std.proofs.lemmas.List.Elements.{All-append, All-cons, All-nil}
use Rattle.std.{proofs.lemmas.List.Folds.list_all-append, proofs.lemmas.Grind.common_steps, proofs.Math.Bool.and-true, proofs.Math.Seq.take-suc}
use Rattle.std.{specs.List.list_all}
use Rattle.integers.{proofs.lists.Matched.matched_more, specs.Lists.AreMatched}
use Rattle.least_key.specs.declared.{net.Net.Net, refusal.Refusal.Refusal}
use Rattle.net_components.{specs.declared.parts.Part.Part, proofs.CallerLemmas.take_more}
use Rattle.cgd_read.specs.Views.{BlockView, block_view, views}
use Rattle.cgd_read.specs.{Blocks.IsReadBody, declared.block.Block.Block}
use Rattle.net_archive.specs.Archives.{IsEntry}
use Rattle.archive_text.specs.Entries.{EntryView}
use Rattle.net_report.specs.Reports.{IsPrintable, outcome_text, report_text}
use Rattle.net_report.{specs.declared.outcome.Outcome.Outcome, specs.declared.command.Command.Command}
use Rattle.net_report.{specs.declared.command.Command.TheVariants.Components, proofs.CallerLemmas.report_last}
use Rattle.block_answers.specs.Outcomes.{is_accepted, IsOutcomeOf, AreOutcomesFrom, AreAcceptedInParts, AreAllAccepted, IsAcceptedAs, IsAcceptedInParts}
use Rattle.block_answers.specs.ComponentLines.{IsAnswerOf, has_key, IsPartTold, ArePartsToldFrom}
use Rattle.block_answers.{specs.Texts.part_text, specs.Texts.parts_from, specs.Deciding.AreOutcomes, proofs.KeysDecideNets.graphs_read}
use Rattle.block_answers.{proofs.KeysDecideNets.outcomes_decide, specs.Reports.IsReport, specs.Reports.IsBlockTold}

-- the lines of one part more
lines_last : (names : List (List ℕ)) (number : ℕ) (ps : List Part) (answers : List (Result Net Refusal)) (p : Part) (answer : Result Net Refusal)
    → AreMatched IsAnswerOf ps answers
    → parts_from names number (ps ++ p ∷ []) (answers ++ answer ∷ []) ≡ parts_from names number ps answers ++ part_text names (number + length ps) p answer
lines_last names number [] [] p answer h = append-nil (part_text names number p answer) ∙ ap (λ n. part_text names n p answer) (none number)
  where
    none : (n : ℕ) → n ≡ n + 0
    none n = omega arith
lines_last names number (q ∷ ps) (a ∷ answers) p answer h =
    ap (λ t. part_text names number q a ++ t) (lines_last names (number + 1) ps answers p answer h.1)
    ∙ sym (append_assoc (part_text names number q a) (parts_from names (number + 1) ps answers) (part_text names (number + 1 + length ps) p answer))
    ∙ ap (λ n. (part_text names number q a ++ parts_from names (number + 1) ps answers) ++ part_text names n p answer) (next number (length ps))
  where
    next : (n k : ℕ) → n + 1 + k ≡ n + suc k
    next n k = omega arith
lines_last names number ps answers p answer h = absurd h

-- the first i parts are reported, and it is the turn of the next number
pub record AreToldTo (names : List (List ℕ)) (ps : List Part) (i number : ℕ) (accepted : Bool) (old text : List ℕ) : Type 0 where
  pub number_is : number ≡ 1 + i
  pub told : ArePartsToldFrom names 1 (take i ps) accepted old text

-- each of them has a key, and this one
keyed_last : (answers : List (Result Net Refusal)) (answer : Result Net Refusal)
    → list_all has_key (answers ++ answer ∷ []) ≡ (list_all has_key answers && has_key answer)
keyed_last answers answer = list_all-append has_key answers (answer ∷ []) ∙ ap (λ (b : Bool). list_all has_key answers && b) (and-true (has_key answer))

-- the next part is reported
pub part_told_next : (names : List (List ℕ)) (ps : List Part) (i number : ℕ) (accepted this : Bool) (old text new : List ℕ) (p : Part) → i < length ps
    → p ≡ get_or ps i p
    → AreToldTo names ps i number accepted old text → IsPartTold names number p this text new
    → AreToldTo names ps (i + 1) (number + 1) (accepted && this) old new
part_told_next names ps i number accepted this old text new p l is h t = record {
  number_is = let e = h.number_is in omega (arith, e);
  told = subst (λ (qs : List Part). ArePartsToldFrom names 1 qs (accepted && this) old new) (sym (take_more ps i p l (sym is))) (record {
    answers = h.told.answers ++ t.answer ∷ [];
    are_answers = matched_more IsAnswerOf (take i ps) h.told.answers h.told.are_answers p t.answer t.is_answer;
    all = ap (λ (b : Bool). accepted && b) t.keyed_is ∙ ap (λ (b : Bool). b && has_key t.answer) h.told.all ∙ sym (keyed_last h.told.answers t.answer);
    text = t.text ∙ ap (λ s. s ++ part_text names number p t.answer) h.told.text
        ∙ append_assoc old (parts_from names 1 (take i ps) h.told.answers) (part_text names number p t.answer)
        ∙ ap (λ s. old ++ s) (ap (λ n. parts_from names 1 (take i ps) h.told.answers ++ part_text names n p t.answer) place
        ∙ sym (lines_last names 1 (take i ps) h.told.answers p t.answer h.told.are_answers));
  });
}
  where
    place : number ≡ 1 + length (take i ps)
    place = let e = h.number_is in let m = length-take-le i ps (omega (arith, l)) in omega (arith, e, m)

-- one more block and its outcome at the end
outcomes_last : (entries : List EntryView) (command : Command) (n : ℕ) (bs : List BlockView) (os : List Outcome) (b : BlockView) (o : Outcome)
    → AreOutcomesFrom entries command n bs os → IsOutcomeOf entries command (n + length bs) b o
    → AreOutcomesFrom entries command n (bs ++ b ∷ []) (os ++ o ∷ [])
outcomes_last entries command n [] [] b o h k = (subst (λ m. IsOutcomeOf entries command m b o) (omega arith) k, tt)
outcomes_last entries command n (c ∷ bs) (x ∷ os) b o h k =
    let further : n + length (c ∷ bs) ≡ (n + 1) + length bs = grind (arith, common_steps) in
    (h.0, outcomes_last entries command (n + 1) bs os b o h.1 (subst (λ m. IsOutcomeOf entries command m b o) further k))
outcomes_last entries command n bs os b o h k = absurd h

-- the outcomes of the first i blocks
pub record AreOutcomesOn (entries : List EntryView) (command : Command) (bs : List BlockView) (i number : ℕ) (os : List Outcome) : Type 0 where
  pub outcomes : AreOutcomesFrom entries command 1 (take i bs) os
  pub number_is : number ≡ i + 1
  pub printable : All IsPrintable os

-- at first there is none
pub outcomes_none : (entries : List EntryView) (command : Command) (bs : List BlockView) → AreOutcomesOn entries command bs 0 1 []
outcomes_none entries command bs = record { outcomes = tt; number_is = refl; printable = All-nil IsPrintable }

-- the blocks up to the next of those that were read
pub next_taken : (found : List Block) (i : ℕ) (block : Block) → i < length found → block ≡ get_or found i block
    → take (i + 1) (views found) ≡ take i (views found) ++ block_view block ∷ []
next_taken found i block l is =
    let bs = views found in let b = block_view block in
    let inside : i < length bs = subst (λ (n : ℕ). i < n) (sym (length-map found block_view)) l in
    let there = get_or-map block_view found i block b l ∙ ap block_view (sym is) in
    ap (λ (n : ℕ). take n bs) (add-one i) ∙ take-suc bs i b inside ∙ ap (λ (x : BlockView). take i bs ++ x ∷ []) there

-- the outcome of the next block of those that were read
pub outcomes_next : (entries : List EntryView) (command : Command) (found : List Block) (i number : ℕ) (os : List Outcome) (block : Block) (o : Outcome)
    → i < length found → block ≡ get_or found i block
    → AreOutcomesOn entries command (views found) i number os → IsOutcomeOf entries command number (block_view block) o → IsPrintable o
    → AreOutcomesOn entries command (views found) (i + 1) (number + 1) (os ++ o ∷ [])
outcomes_next entries command found i number os block o l is h k p =
    let bs = views found in let b = block_view block in
    let inside : i < length bs = subst (λ (n : ℕ). i < n) (sym (length-map found block_view)) l in
    let count = length-take-le i bs (omega (arith, inside)) in
    let place : number ≡ 1 + length (take i bs) = let n = h.number_is in omega (arith, n, count) in
    record {
      outcomes = subst (λ cs. AreOutcomesFrom entries command 1 cs (os ++ o ∷ [])) (sym (next_taken found i block l is))
          (outcomes_last entries command 1 (take i bs) os b o h.outcomes (subst (λ m. IsOutcomeOf entries command m b o) place k));
      number_is = let n = h.number_is in omega (arith, n);
      printable = All-append IsPrintable os (o ∷ []) h.printable (All-cons IsPrintable o [] p (All-nil IsPrintable));
    }

-- the blocks up to the last
pub all_taken : (found : List Block) (i : ℕ) → length found ≤ i → take i (views found) ≡ views found
all_taken found i l = take_all i (views found) (subst (λ (n : ℕ). n ≤ i) (sym (length-map found block_view)) l)

-- the outcomes of all blocks that were read, beside the entries of an archive
pub outcomes_whole : (entries : List EntryView) (command : Command) (found : List Block) (i number : ℕ) (os : List Outcome) → length found ≤ i
    → AreOutcomesOn entries command (views found) i number os
    → All IsEntry entries → All (λ (b : Block). IsReadBody b.body) found → AreOutcomes command entries (views found) os
outcomes_whole entries command found i number os l h good read =
    let past : length (views found) ≤ i = subst (λ (n : ℕ). n ≤ i) (sym (length-map found block_view)) l in
    let whole = subst (λ (blocks : List BlockView). AreOutcomesFrom entries command 1 blocks os) (take_all i (views found) past) h.outcomes in
    outcomes_decide entries command (views found) os whole good (graphs_read found read)

-- the text of the first i blocks, and whether each of them was accepted
pub record AreToldOn (entries : List EntryView) (command : Command) (bs : List BlockView) (i number : ℕ) (accepted : Bool) (text : List ℕ) : Type 0 where
  pub outcomes : List Outcome
  pub on : AreOutcomesOn entries command bs i number outcomes
  pub all : AreAllAccepted command (take i bs) outcomes accepted
  pub report : text ≡ report_text outcomes

-- all of no blocks were accepted
all_of_none : (command : Command) → AreAllAccepted command [] [] true
all_of_none command = search arith

-- at first no block is reported
pub told_none : (entries : List EntryView) (command : Command) (bs : List BlockView) → AreToldOn entries command bs 0 1 true []
told_none entries command bs = search (arith, outcomes_none, all_of_none)

-- each of them was accepted, and this one
accepted_last : (os : List Outcome) (o : Outcome) → list_all is_accepted (os ++ o ∷ []) ≡ (list_all is_accepted os && is_accepted o)
accepted_last os o = list_all-append is_accepted os (o ∷ []) ∙ ap (λ (b : Bool). list_all is_accepted os && b) (and-true (is_accepted o))

shown_next : (os : List Outcome) (o : Outcome) (accepted this : Bool) → accepted ≡ list_all is_accepted os → this ≡ is_accepted o
    → (accepted && this) ≡ list_all is_accepted (os ++ o ∷ [])
shown_next os o accepted this h k = ap (λ (b : Bool). accepted && b) k ∙ ap (λ (b : Bool). b && is_accepted o) h ∙ sym (accepted_last os o)

-- so it is if the components are reported
parts_last : (bs : List BlockView) (os : List Outcome) (each : List Bool) (b : BlockView) (o : Outcome) (this : Bool) → AreAcceptedInParts bs os each
    → IsAcceptedInParts b.body o.body this
    → AreAcceptedInParts (bs ++ b ∷ []) (os ++ o ∷ []) (each ++ this ∷ [])
parts_last [] [] [] b o this h k = (k, tt)
parts_last (c ∷ bs) (p ∷ os) (x ∷ each) b o this h k = (h.0, parts_last bs os each b o this h.1 k)
parts_last bs os each b o this h k = absurd h

all_last : (each : List Bool) (this : Bool) → list_all (λ (b : Bool). b) (each ++ this ∷ []) ≡ (list_all (λ (b : Bool). b) each && this)
all_last each this = list_all-append (λ (b : Bool). b) each (this ∷ []) ∙ ap (λ (b : Bool). list_all (λ (c : Bool). c) each && b) (and-true this)

-- whether all were accepted, with one block more
all_next : (command : Command) (bs : List BlockView) (os : List Outcome) (b : BlockView) (o : Outcome) (accepted this : Bool)
    → AreAllAccepted command bs os accepted → IsAcceptedAs command b.body o.body this
    → AreAllAccepted command (bs ++ b ∷ []) (os ++ o ∷ []) (accepted && this)
all_next Components bs os b o accepted this h k = record {
  each = h.each ++ this ∷ [];
  are_each = parts_last bs os h.each b o this h.are_each k;
  all = ap (λ (c : Bool). c && this) h.all ∙ sym (all_last h.each this);
}
all_next command bs os b o accepted this h k = shown_next os o accepted this h k

-- the next block is reported
pub told_next : (entries : List EntryView) (command : Command) (found : List Block) (i number : ℕ) (accepted this : Bool) (text new : List ℕ) (block : Block)
    → i < length found → block ≡ get_or found i block
    → AreToldOn entries command (views found) i number accepted text → IsBlockTold entries command number (block_view block) this text new
    → AreToldOn entries command (views found) (i + 1) (number + 1) (accepted && this) new
told_next entries command found i number accepted this text new block l is h t = record {
  outcomes = h.outcomes ++ t.outcome ∷ [];
  on = outcomes_next entries command found i number h.outcomes block t.outcome l is h.on t.is_outcome t.printable;
  all = subst (λ (bs : List BlockView). AreAllAccepted command bs (h.outcomes ++ t.outcome ∷ []) (accepted && this)) (sym (next_taken found i block l is))
      (all_next command (take i (views found)) h.outcomes (block_view block) t.outcome accepted this h.all t.all);
  report = t.report ∙ ap (λ (s : List ℕ). s ++ outcome_text t.outcome) h.report ∙ sym (report_last h.outcomes t.outcome);
}

-- all blocks are reported
pub told_whole : (entries : List EntryView) (command : Command) (found : List Block) (i number : ℕ) (accepted : Bool) (text : List ℕ) → length found ≤ i
    → AreToldOn entries command (views found) i number accepted text
    → All IsEntry entries → All (λ (b : Block). IsReadBody b.body) found → IsReport command entries (views found) accepted text
told_whole entries command found i number accepted text l h good read = record {
  outcomes = h.outcomes;
  are_outcomes = outcomes_whole entries command found i number h.outcomes l h.on good read;
  all = subst (λ (bs : List BlockView). AreAllAccepted command bs h.outcomes accepted) (all_taken found i l) h.all;
  report = h.report;
}
