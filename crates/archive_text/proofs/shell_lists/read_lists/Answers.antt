-- Of `read_lists`: the loop over `done`; the clause `shells`.
use Rattle.std.proofs.Common.{Vec, Global, ◌+◌, ℕ, [], ◌∷◌, ◌++◌, length, sym, ap, ◌∙◌, subst, arith}
use Rattle.std.proofs.lemmas.List.{length-append}
use Rattle.line_text.{specs.Lines.IsAt, proofs.CallerLemmas.at_none, proofs.CallerLemmas.at_some}
use Rattle.archive_text.{specs.Rows.shells_row, specs.Forms.AreSizes, specs.Reading.AreShellsTo, specs.Reading.NoShells, proofs.KeyNumbers.one_more_class}
use Rattle.archive_text.proofs.shell_lists.read_lists.Goals as goal

pub returns-in_default-clause-shells : goal.returns-in_default-clause-shells
returns-in_default-clause-shells c = λ text rows at.
    let read = c.loop-done.invariant.0 in
    record {
      lists = c.loop-done.lists;
      place = c.loop-done.lines;
      at = read.at text rows at;
      number = c.number-line.ensures.number;
      each = read.each;
      few = omega (arith, c.loop-done.invariant.1, c.loop-done-test.true);
      none = subst (λ k. NoShells (k + 1) c.loop-done.lines.rest) (sym c.loop-done.invariant.1)
          (at_none c.in_ok-sizes.field-0 (NoShells (c.loop-done.done + 1) c.loop-done.lines.rest) c.in_default.is c.in_ok-sizes.ensures.none);
    }

pub loop-done-preserved : goal.loop-done-preserved
loop-done-preserved c =
    let read = c.loop-done.invariant.0 in
    let more = one_more_class c.args.lines.now c.loop-done.lines c.next_shells.new.lines c.loop-done.lists c.in-Some.sizes.items read
    (at_some c.in_ok-sizes.field-0 (λ (s : Vec ℕ Global). AreSizes s.items) c.in-Some.sizes c.in-Some.is c.in_ok-sizes.ensures.form)
    (λ text rows at. subst (λ k. IsAt text (rows ++ shells_row (k + 1) c.in-Some.sizes.items ∷ []) c.next_shells.new.lines) (sym c.loop-done.invariant.1)
    (at_some c.in_ok-sizes.field-0 (λ (s : Vec ℕ Global). IsAt text (rows ++ shells_row (c.loop-done.done + 1) s.items ∷ []) c.next_shells.new.lines)
    c.in-Some.sizes c.in-Some.is (c.in_ok-sizes.ensures.place text rows at))) in (
      subst (λ ls. AreShellsTo c.args.lines.now c.next_shells.new.lines ls) (sym c.in_ok-push.ensures.ok) more,
      let long = ap length c.in_ok-push.ensures.ok ∙ length-append c.loop-done.lists (c.in-Some.sizes.items ∷ []) in
          omega (arith, long, c.loop-done.invariant.1),
    )

pub returns-clause-shells : goal.returns-clause-shells
returns-clause-shells c = λ text rows at.
    let read = c.loop-done.invariant.0 in
    record {
      at = read.at text rows at;
      each = read.each;
      whole = omega (arith, c.loop-done.invariant.1, c.loop-done-test.false, c.loop-done.auto.done-end);
    }
