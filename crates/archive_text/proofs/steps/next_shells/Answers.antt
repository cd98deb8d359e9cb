-- Of `next_shells`: the clauses `place` and `none`.
use Rattle.std.proofs.Common.{◌≡◌, Ok, Vec, Global, Option, ap, ℕ, List, [], ◌∷◌, ◌++◌, IfSome, IfNone, sym, ◌∙◌, subst}
use Rattle.std.{proofs.lemmas.Result.IfOk-weaker, proofs.lemmas.Bool.true≢false, specs.Prelude.codes}
use Rattle.line_text.{specs.Lines.IsAt, specs.Numbers.row_text, proofs.CallerLemmas.some_from}
use Rattle.archive_text.specs.{Rows.shells_row, Rows.shells_numbers, Forms.AreSizes, Reading.NoShells}
use Rattle.archive_text.proofs.{Walks.shells_few, Walks.shells_wide, KeyNumbers.no_shells}
use Rattle.archive_text.proofs.steps.next_shells.Goals as goal

pub returns-then-branch-clause-place : goal.returns-then-branch-clause-place
unfolding shells_row
returns-then-branch-clause-place c = λ text rows at.
    IfOk-weaker c.sizes_from.result (λ (o : Option (Vec ℕ Global)). IfSome o (λ sizes. c.deref.result.now ≡ shells_numbers c.args.class sizes.items))
    (λ (o : Option (Vec ℕ Global)). IfSome o (λ sizes. IsAt text (rows ++ shells_row c.args.class sizes.items ∷ []) c.next_row.new.self))
    (λ o. some_from o (λ (sizes : Vec ℕ Global). c.deref.result.now ≡ shells_numbers c.args.class sizes.items)
    (λ (sizes : Vec ℕ Global). IsAt text (rows ++ shells_row c.args.class sizes.items ∷ []) c.next_row.new.self)
    (λ s e. subst (λ ns. IsAt text (rows ++ row_text (codes "shells") ns ∷ []) c.next_row.new.self) (sym c.deref.ensures.value ∙ e)
    (c.in_ok-next_row.ensures.place text rows at (ap (λ b. Ok b) c.if-branch.true)))) c.sizes_from.ensures.found

pub returns-then-branch-clause-none : goal.returns-then-branch-clause-none
unfolding shells_row
returns-then-branch-clause-none c =
    IfOk-weaker c.sizes_from.result (λ (o : Option (Vec ℕ Global)). (sizes : List ℕ) → AreSizes sizes → c.deref.result.now ≡ shells_numbers c.args.class sizes
    → IfNone o ⊥) (λ (o : Option (Vec ℕ Global)). IfNone o (NoShells c.args.class c.args.lines.now.rest))
    (λ o none. no_shells o c.deref.result.now c.args.class c.args.lines.now.rest
    (λ sizes rest are e. c.deref.ensures.value
    ∙ (c.in_ok-next_row.ensures.every (shells_numbers c.args.class sizes) rest (shells_wide c.args.class sizes c.requires are)
    (shells_few c.args.class sizes are) e).1) none) c.sizes_from.ensures.none

pub returns-else-branch-clause-none : goal.returns-else-branch-clause-none
unfolding shells_row
returns-else-branch-clause-none c =
    λ sizes rest are e. true≢false
    (sym (c.in_ok-next_row.ensures.every (shells_numbers c.args.class sizes) rest (shells_wide c.args.class sizes c.requires are)
    (shells_few c.args.class sizes are) e).0 ∙ c.if-branch.false)
