-- Of `eliminate_all`: the loop over `i`; what it ensures.
use Rattle.std.proofs.Common.{◌≡◌, ◌∙◌, ◌+◌, ◌-◌, arith, sym, subst, refl}
use Rattle.elimination.specs.Listed.{list_to}
use Rattle.elimination.specs.{Lines.AreLines, Lines.AreWide, Lines.IsSymmetric, Faults.AreGood}
use Rattle.elimination.specs.Gone.{AreBelow, AreGone, gone_entry, level_at}
use Rattle.elimination.proofs.Firsts.{fault_turn, good_none, good_turn, handed_on}
use Rattle.elimination.proofs.Gone.{below_pushed, count_pushed, gone_pushed, next_at}
use Rattle.elimination.proofs.solution.eliminate_all.Goals as goal

pub loop-i-init : goal.loop-i-init
loop-i-init g c =
    let n = g.N.Exact in let all : c.args.n + 1 ≡ c.args.n - 0 + 1 = omega arith in
    record {
      count = c.in_ok-gone.ensures;
      lines = c.requires.lines ∙ all;
      sums = c.requires.sums ∙ all;
      wide = subst (λ q. AreWide c.args.lines.now.items q q) all c.requires.wide;
      below = record { has = λ i d o. absurd (omega (arith, o)) };
      values = λ v h s. (
        record { has = λ i x r p o. absurd (omega (arith, o)) },
        good_none,
        subst (λ q. AreLines n.modulus n.value c.args.lines.now.items c.args.sums.now.items v q q) all h,
        subst (IsSymmetric n.modulus v) all s,
      );
    }

pub loop-i-preserved : goal.loop-i-preserved
loop-i-preserved g c =
    let n = g.N.Exact in let k = c.args.n in let i = c.loop-i.i in let before = c.loop-i.invariant in
    let e = c.in_ok-last.ensures in let x = c.in_ok-last.last in let r = c.in_ok-last.last_sums in let p = c.in_ok-last.pivot in
    let gone = c.loop-i.gone in let new = c.push_gone.new.gone in let put = c.in_ok-push_gone.ensures in
    let lines = c.eliminate.new.lines.items in let sums = c.eliminate.new.sums.items in
    let next : k - i ≡ k - (i + 1) + 1 = omega (arith, c.loop-i-test.true) in
    record {
      count = count_pushed gone new x r p i before.count put.joined put.sums put.pivots;
      lines = e.lines ∙ next;
      sums = e.sums ∙ next;
      wide = subst (λ q. AreWide lines q q) next e.wide;
      below = subst (λ xs. AreBelow xs k (i + 1)) (sym put.joined) (below_pushed gone.joined.items x k i before.count.joined before.below e.last);
      values = λ v h s.
          let b = before.values v h s in let d = e.values (level_at k v i) b.2 b.3 in
          let level = sym (next_at k v i (i + 1) (k - i) (omega arith) refl) in (
            gone_pushed n.modulus n.value n.fits v k i gone new x r p before.count put.joined put.sums put.pivots b.0
                (record { line = d.0.0; pivot = d.0.1 }),
            good_turn n.modulus n.fits (gone_entry g.row.D k v) i b.1 d.1,
            subst (λ q. AreLines n.modulus n.value lines sums (level_at k v (i + 1)) q q) next
                (subst (λ l. AreLines n.modulus n.value lines sums l (k - i) (k - i)) level d.0.2),
            subst (IsSymmetric n.modulus (level_at k v (i + 1))) next (subst (λ l. IsSymmetric n.modulus l (k - i)) level d.0.3),
          );
    }

pub returns-in_err-last-clause-values : goal.returns-in_err-last-clause-values
returns-in_err-last-clause-values g c = λ v h s.
    let n = g.N.Exact in let k = c.args.n in let i = c.loop-i.i in let b = c.loop-i.invariant.values v h s in
    handed_on _ _ _ _ c.from_residual-in_err-last.ensures.1 (fault_turn n.modulus n.fits (gone_entry g.row.D k v) n.value i k c.in_err-last.field-0.0
    c.loop-i-test.true b.1 (c.in_err-last.ensures.values (level_at k v i) b.2 b.3))

pub returns-clause-below : goal.returns-clause-below
returns-clause-below g c =
    let done : c.loop-i.i ≡ c.args.n = omega (arith, c.loop-i.auto.i-end, c.loop-i-test.false) in
    subst (AreBelow c.loop-i.gone.joined.items c.args.n) done c.loop-i.invariant.below

pub returns-clause-values : goal.returns-clause-values
returns-clause-values g c = λ v h s.
    let n = g.N.Exact in let k = c.args.n in let b = c.loop-i.invariant.values v h s in
    let done : c.loop-i.i ≡ k = omega (arith, c.loop-i.auto.i-end, c.loop-i-test.false) in (
      subst (AreGone n.modulus n.value n.fits c.loop-i.gone v k) done b.0,
      subst (λ q. AreGood n.modulus n.fits (list_to q (gone_entry g.row.D k v))) done b.1,
    )
