-- Of `fraction_row`: what it ensures.
use Rattle.std.proofs.Common.{◌≡◌, ⊎_elim, arith}
use Rattle.barycentre.{specs.Recovered.by_coordinate, proofs.Recovered.flat_row, proofs.Recovered.full_row}
use Rattle.elimination.proofs.CallerLemmas.{dimension_three}
use Rattle.barycentre.proofs.recovery.fraction_row.Goals as goal

pub returns-in-None-fraction_of : goal.returns-in-None-fraction_of
returns-in-None-fraction_of g c =
    record {
      c = 1;
      below = ⊎_elim (λ (e : g.row.D ≡ 2). omega (arith, e)) (λ (e : g.row.D ≡ 3). omega (arith, e)) c.requires.dimension;
      none = c.in-None-fraction_of.ensures;
    }

pub returns-in-None-fraction_of-2 : goal.returns-in-None-fraction_of-2
returns-in-None-fraction_of-2 g c = record {
  c = 2;
  below = let e = dimension_three g.row.D c.requires.dimension c.if-this-eq2.false in omega (arith, e);
  none = c.in-None-fraction_of-2.ensures;
}

pub returns-then-this-eq2 : goal.returns-then-this-eq2
returns-then-this-eq2 g c = flat_row c.args.m c.args.bound (by_coordinate c.args.x c.args.y c.args.z) _ c.if-this-eq2.true c.in-Some.ensures
    c.in-Some-fraction_of.ensures c.from_small-third.ensures

pub returns-in-Some-fraction_of-2 : goal.returns-in-Some-fraction_of-2
returns-in-Some-fraction_of-2 g c = full_row c.args.m c.args.bound (by_coordinate c.args.x c.args.y c.args.z) _
    (dimension_three g.row.D c.requires.dimension c.if-this-eq2.false) c.in-Some.ensures c.in-Some-fraction_of.ensures c.in-Some-fraction_of-2.ensures
