-- Of `read_shifts`: the clause `shifts`; the loop.
use Rattle.std.proofs.Common.{◌<◌, [], ◌∷◌, ◌++◌, length, refl, sym, ap, ◌∙◌, subst, arith}
use Rattle.std.proofs.lemmas.List.{length-append}
use Rattle.integers.specs.Vectors.{Vector}
use Rattle.line_text.{specs.Lines.IsAt, proofs.CallerLemmas.at_none, proofs.CallerLemmas.at_some}
use Rattle.map_check.specs.Conditions.{IsShift}
use Rattle.net_certificate.specs.Stages.{Mapped, drawing, map_with}
use Rattle.net_certificate.specs.{Rows.OfBase, Rows.base_row, Steps.NoShift, Reading.IsIn}
use Rattle.net_certificate.proofs.Places.{no_shift, row_in, bad_in}
use Rattle.net_certificate.proofs.tables.read_shifts.Goals as goal

pub returns-in_default-clause-shifts : goal.returns-in_default-clause-shifts
returns-in_default-clause-shifts c = λ text items edges others m images whole is.
    let s = c.args.first.now in let t = c.args.second.now in let M = map_with m images c.loop.base in
    bad_in text (Mapped (drawing s edges) items (drawing t others) M) c.loop.lines c.number-line.result
    (c.loop.invariant.0 text items edges others m images whole is) c.number-line.ensures.number
    (no_shift (drawing s edges) items (drawing t others) M c.loop.lines.rest whole (omega (arith, c.loop.invariant.1, c.loop-test.true))
    (at_none c.in_ok-v.field-0 (NoShift t.dim c.loop.lines.rest) c.in_default.is c.in_ok-v.ensures.none))
    (λ may. absurd may)

pub loop-preserved : goal.loop-preserved
loop-preserved c =
    let s = c.args.first.now in let t = c.args.second.now in let v = c.in-Some.v in
    let less : length c.loop.base < s.dim = omega (arith, c.loop.invariant.1, c.loop-test.true) in (
      (λ text items edges others m images whole is.
          subst (λ l. IsIn text (Mapped (drawing s edges) items (drawing t others) (map_with m images l)) c.next_shift.new.lines) (sym c.in_ok-push.ensures.ok)
          (row_in text (Mapped (drawing s edges) items (drawing t others) (map_with m images c.loop.base)) (OfBase t.dim v) c.loop.lines c.next_shift.new.lines
          (c.loop.invariant.0 text items edges others m images whole is)
          (refl, whole, less, at_some c.in_ok-v.field-0 (λ (y : Vector). IsShift t.dim y) v c.in-Some.is c.in_ok-v.ensures.form)
          (λ rows at. at_some c.in_ok-v.field-0 (λ (y : Vector). IsAt text (rows ++ base_row t.dim y ∷ []) c.next_shift.new.lines) v c.in-Some.is
          (c.in_ok-v.ensures.place text rows at)))),
      (let long = ap length c.in_ok-push.ensures.ok ∙ length-append c.loop.base (v ∷ []) in omega (arith, long, c.loop.invariant.1)),
    )
