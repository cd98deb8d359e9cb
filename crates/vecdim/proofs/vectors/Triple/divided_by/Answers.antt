-- Of `divided_by`: the clauses `within` and `value`; what `over` requires.
use Rattle.std.proofs.Common.{◌≤◌, ℕ, ℤ, ◌^◌, sym, subst, arith}
use Rattle.std.{specs.Prelude.unsigned_abs, proofs.lemmas.Int.to_z-of_z}
use Rattle.integers.proofs.vectors.Bounds.{abs_negative, fits_from_bound}
use Rattle.vecdim.proofs.Dividing.{opposite_divides, opposite_back}
use Rattle.vecdim.proofs.vectors.Triple.divided_by.Goals as goal

pub returns-then-g-gt0-clause-within : goal.returns-then-g-gt0-clause-within
returns-then-g-gt0-clause-within c = c.over.ensures.within

pub over-requires-2-clause-divides : goal.over-requires-2-clause-divides
over-requires-2-clause-divides c =
    let size = c.negative-size.result in let e = c.negative-size.ensures in
    let e' = simp (to_z-of_z, c.ranges.g) at e in
    let small = subst (λ (k : ℕ). k ≤ 2 ^ 126) (sym (abs_negative c.args.g)) c.requires.small in
    let fits = fits_from_bound size (2 ^ 126) (omega arith) (subst (λ (z : ℤ). unsigned_abs z ≤ 2 ^ 126) (sym e') small) in
    let w = c.requires.divides in
    (w.0, simp (to_z-of_z, fits) (opposite_divides c.args.g size c.args.self.now c.opposite.result w.0 e' c.opposite.ensures.value w.1))

pub returns-clause-value : goal.returns-clause-value
returns-clause-value c =
    let size = c.negative-size.result in let e = c.negative-size.ensures in
    let e' = simp (to_z-of_z, c.ranges.g) at e in
    let small = subst (λ (k : ℕ). k ≤ 2 ^ 126) (sym (abs_negative c.args.g)) c.requires.small in
    let fits = fits_from_bound size (2 ^ 126) (omega arith) (subst (λ (z : ℤ). unsigned_abs z ≤ 2 ^ 126) (sym e') small) in
    let d = c.over-2.ensures.value in
    opposite_back c.args.g size c.args.self.now c.opposite.result c.over-2.result e' c.opposite.ensures.value (simp (to_z-of_z, fits) at d)

pub returns-clause-within : goal.returns-clause-within
returns-clause-within c = λ n h. c.over-2.ensures.within n (c.opposite.ensures.within n h)
