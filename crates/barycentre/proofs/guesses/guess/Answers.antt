use Rattle.std.proofs.lemmas.Result.{err_from_is_err_and}
use Rattle.std.proofs.lemmas.List.{length_push, Elements.All-push, Elements.All-same}
use Rattle.std.proofs.{Common.◌^◌, Common.[], Common.◌∷◌, Common.◌++◌, Common.◌∙◌, Common.◌+◌, Common.ap, Common.arith, Common.length, lemmas.Int.ints}
use Rattle.integers.specs.Vectors.{IsWithin, HasDimension}
use Rattle.barycentre.proofs.guesses.guess.Goals as goal

pub loop-row-preserved : goal.loop-row-preserved
loop-row-preserved g c =
    let v = c.position.result in let made = c.loop-row.at.items in let before = c.loop-row.invariant in
    let items = c.push.new.self.items in let e = c.in_ok-push.ensures.items in
    record {
      count = ap length e ∙ length_push made v ∙ ap (λ k. k + 1) before.count;
      reach = All-same (IsWithin (2 ^ 102)) items (made ++ v ∷ []) e (All-push (IsWithin (2 ^ 102)) made v before.reach c.position.ensures.reach);
      flat = All-same (HasDimension g.row.D) items (made ++ v ∷ []) e (All-push (HasDimension g.row.D) made v before.flat c.position.ensures.flat);
    }

pub returns-in-None : goal.returns-in-None
returns-in-None g c = record { positive = tt; count = tt; reach = tt; flat = tt }

pub returns-in_err-at : goal.returns-in_err-at
returns-in_err-at g c =
    let told = err_from_is_err_and c.from_residual.result c.from_residual.ensures.1 in
    record { positive = rw told.1 tt; count = rw told.1 tt; reach = rw told.1 tt; flat = rw told.1 tt }

pub returns-in_err-push : goal.returns-in_err-push
returns-in_err-push g c =
    let told = err_from_is_err_and c.from_residual-in_err-push.result c.from_residual-in_err-push.ensures.1 in
    record { positive = rw told.1 tt; count = rw told.1 tt; reach = rw told.1 tt; flat = rw told.1 tt }

pub returns : goal.returns
returns g c =
    let usable = c.in-Some.ensures in let low = usable.positive in let high = usable.small in let h = c.loop-row.invariant in
    record {
      positive = omega (arith, ints, low, high);
      count = h.count ∙ omega (arith, c.loop-row.auto.row-index-end, c.loop-row-test.false);
      reach = record { denominator = omega (arith, ints, low, high); positions = h.reach };
      flat = h.flat;
    }
