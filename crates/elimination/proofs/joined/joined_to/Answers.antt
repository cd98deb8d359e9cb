-- Of `joined_to`: the loop over `i`; what it ensures.
use Rattle.std.proofs.Common.{rules, ◌≡◌, ◌+◌, ◌-◌, ◌<◌, ◌∙◌, get_or, arith, ap, subst}
use Rattle.std.specs.{Global.Vec, List.All}
use Rattle.elimination.{specs.Lines.AreJoinedVertices, proofs.Firsts.handed_on, proofs.Loops.value_at, proofs.Loops.joined_none}
use Rattle.elimination.proofs.Skipped.{has_trans}
use Rattle.elimination.proofs.joined.joined_to.Goals as goal

pub loop-i-init : goal.loop-i-init
loop-i-init g c =
    let n = g.N.Exact in
    record {
      below = rw c.in_ok-joined.ensures.items (λ a d b. absurd (omega (arith, b)));
      rising = rw c.in_ok-joined.ensures.items (λ a b d o l. absurd (omega (arith, l)));
      done = λ v w s. rw c.in_ok-joined.ensures.items (joined_none n.modulus n.value v c.args.k);
    }

pub loop-i-preserved : goal.loop-i-preserved
loop-i-preserved g c =
    let n = g.N.Exact in let k = c.args.k in let i = c.loop-i.i in let below = c.loop-i-test.true in
    let line = c.index-lines-i.result in let x = c.index.result.now in
    let own : x ≡ get_or line.items (k - (i + 1)) x = search rules in
    record {
      below = c.in_ok-push_joined.ensures.below;
      rising = c.in_ok-push_joined.ensures.rising;
      done = λ v w s.
          let has = value_at n.value x _ (v.w i k) (own ∙ ap (λ (t : Vec g.row.N.Denot). get_or t.items (k - (i + 1)) x) c.index-lines-i.is)
          ((w.has i line below).has k x below (omega arith)) in
          c.in_ok-push_joined.ensures.values v k (c.loop-i.invariant.done v w s)
          (has_trans has (s.has i k (omega (arith, below)) (omega arith) (λ f. omega (arith, below, f))));
    }

pub returns-in_err-joined : goal.returns-in_err-joined
returns-in_err-joined g c =
    let told = c.from_residual.ensures.1 in
    record { below = handed_on _ _ _ _ told tt; rising = handed_on _ _ _ _ told tt; values = λ v w s. handed_on _ _ _ _ told tt }

pub returns-in_err-push_joined : goal.returns-in_err-push_joined
returns-in_err-push_joined g c =
    let told = c.from_residual-in_err-push_joined.ensures.1 in
    record { below = handed_on _ _ _ _ told tt; rising = handed_on _ _ _ _ told tt; values = λ v w s. handed_on _ _ _ _ told tt }

pub returns : goal.returns
returns g c =
    let n = g.N.Exact in let k = c.args.k in let joined = c.loop-i.joined.items in
    let done : c.loop-i.i ≡ k = omega (arith, c.loop-i.auto.i-end, c.loop-i-test.false) in
    record {
      below = subst (λ i. All (λ x. x.place < i) joined) done c.loop-i.invariant.below;
      rising = c.loop-i.invariant.rising;
      values = λ v w s. subst (λ i. AreJoinedVertices n.modulus n.value joined v 0 i k) done (c.loop-i.invariant.done v w s);
    }
