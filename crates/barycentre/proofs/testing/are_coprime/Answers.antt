use Rattle.std.proofs.{Common.rules, Common.pos, Common.◌≡◌, lemmas.List.Elements.All-get_or}
use Rattle.integers.specs.Vectors.{DividesVector}
use Rattle.barycentre.proofs.Existing.{divides_divisor, divides_one}
use Rattle.barycentre.proofs.testing.are_coprime.Goals as goal

pub returns-then-divisor-eq1 : goal.returns-then-divisor-eq1
returns-then-divisor-eq1 c t = record {
  only = λ k d h. divides_one k c.loop-v.divisor c.if-divisor-eq1.true (c.loop-v.invariant k d h);
}

pub loop-v-preserved : goal.loop-v-preserved
loop-v-preserved c k d h =
    let v = c.v-item.result in
    let divided : DividesVector (pos k) v = rw c.v-item.is (All-get_or (DividesVector (pos k)) c.args.at.now c.loop-v.v-index v c.loop-v-test.true h) in
    divides_divisor k c.loop-v.divisor v c.common_divisor-divisor.result c.common_divisor-divisor.ensures (c.loop-v.invariant k d h) divided

pub returns : goal.returns
returns c t = record {
  only = λ k d h.
      let one : c.loop-v.divisor ≡ 1 = search rules in
      divides_one k c.loop-v.divisor one (c.loop-v.invariant k d h);
}
