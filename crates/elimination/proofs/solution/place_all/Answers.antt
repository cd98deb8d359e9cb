-- Of `place_all`: the loop over `j`; what it ensures.
use Rattle.std.proofs.Common.{◌≡◌, ◌+◌, ◌-◌, suc, arith, sym, subst}
use Rattle.elimination.specs.Listed.{list_to, position_entries, position_up_to}
use Rattle.elimination.specs.{Lines.AreRowsOfValues, Lines.IsLastLine, Faults.AreGood, Faults.IsFault}
use Rattle.elimination.specs.Gone.{level_at, placed_entry}
use Rattle.elimination.proofs.Firsts.{fault_turn, good_turn, handed_on}
use Rattle.elimination.proofs.Gone.{gone_at, level_below}
use Rattle.elimination.proofs.solution.place_all.Goals as goal

pub loop-j-preserved : goal.loop-j-preserved
loop-j-preserved g c =
    let n = g.N.Exact in let k = c.args.n in let j = c.loop-j.j in let e = c.in_ok-push_position.ensures in
    let x = c.index.result.now in let r = c.index-in-loop-j.result.now in
    let p = c.index-in-loop-j-2.result.now in let rows = c.loop-j.rows.items in
    record {
      count = e.count;
      values = λ v h.
          let b = c.loop-j.invariant.values v h in let own = level_at k v (k - (j + 1)) in
          let level = level_below k j v c.loop-j-test.true in let last : j + 1 ≡ suc j = omega arith in
          let gone = gone_at n.modulus n.value n.fits c.args.gone.now x r p v k j c.loop-j-test.true h
          c.index.ensures c.index-in-loop-j.ensures c.index-in-loop-j-2.ensures in
          let line = subst (λ xs. IsLastLine n.modulus n.value xs r own (j + 1)) (sym c.deref.ensures.value) gone.line in
          let d = e.values own j last (subst (λ l. AreRowsOfValues n.modulus n.value rows (position_up_to j l) (j + 1)) (sym level) b.0) line gone.pivot in (
            d.0,
            good_turn n.modulus n.fits (placed_entry g.row.D k v) j b.1
                (subst (λ l. AreGood n.modulus n.fits (list_to g.row.D (position_entries own (j + 1) (position_up_to j l)))) level d.1),
          );
    }

pub returns-in_err-push_position-clause-values : goal.returns-in_err-push_position-clause-values
returns-in_err-push_position-clause-values g c = λ v h.
    let n = g.N.Exact in let k = c.args.n in let j = c.loop-j.j in
    let x = c.index.result.now in let r = c.index-in-loop-j.result.now in
    let p = c.index-in-loop-j-2.result.now in let rows = c.loop-j.rows.items in
    let b = c.loop-j.invariant.values v h in let own = level_at k v (k - (j + 1)) in
    let level = level_below k j v c.loop-j-test.true in let last : j + 1 ≡ suc j = omega arith in
    let gone = gone_at n.modulus n.value n.fits c.args.gone.now x r p v k j c.loop-j-test.true h
    c.index.ensures c.index-in-loop-j.ensures c.index-in-loop-j-2.ensures in
    let line = subst (λ xs. IsLastLine n.modulus n.value xs r own (j + 1)) (sym c.deref.ensures.value) gone.line in
    let below = subst (λ l. AreRowsOfValues n.modulus n.value rows (position_up_to j l) (j + 1)) (sym level) b.0 in
    let fault = c.in_err-push_position.ensures.values own j last below line gone.pivot in
    handed_on _ _ _ _ c.from_residual-in_err-push_position.ensures.1 (fault_turn n.modulus n.fits (placed_entry g.row.D k v) n.value j k
    c.in_err-push_position.field-0.0 c.loop-j-test.true b.1
    (subst (λ l. IsFault n.modulus n.fits n.value (list_to g.row.D (position_entries own (j + 1) (position_up_to j l))) c.in_err-push_position.field-0.0)
    level fault))

pub returns-clause-values : goal.returns-clause-values
returns-clause-values g c = λ v h.
    let n = g.N.Exact in let k = c.args.n in let rows = c.loop-j.rows.items in let b = c.loop-j.invariant.values v h in
    let done : c.loop-j.j ≡ k = omega (arith, c.loop-j.auto.j-end, c.loop-j-test.false) in let none : k - k ≡ 0 = omega arith in (
      subst (λ q. AreRowsOfValues n.modulus n.value rows (position_up_to k (level_at k v q)) (k + 1)) none
          (subst (λ q. AreRowsOfValues n.modulus n.value rows (position_up_to q (level_at k v (k - q))) (q + 1)) done b.0),
      subst (λ q. AreGood n.modulus n.fits (list_to q (placed_entry g.row.D k v))) done b.1,
    )
