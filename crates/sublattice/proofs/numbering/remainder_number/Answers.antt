use Rattle.std.proofs.Common.{◌^◌, arith}
use Rattle.sublattice.proofs.Numbers.{below_most, digits_below, factors_small, number_of_digits}
use Rattle.sublattice.proofs.numbering.remainder_number.Goals as goal

pub mixed-requires : goal.mixed-requires
mixed-requires g c =
    let S = c.args.lattice.now in let d = c.digits_of.ensures in let h = d.remainder.remainder.high in
    let s = factors_small (2 ^ 20) S d.stair.reduced c.requires in
    let e = c.pivots_of-pivots.ensures.second in let i = c.pivots_of-pivots.ensures.third in let s1 = s.1 in
    let s2 = s.2 in
    record {
      first = below_most c.digits_of.result.first d.r.x S.first_x d.first h.0 s.0;
      second = below_most c.digits_of.result.second d.r.y S.second_y d.second h.1 s.1;
      third = below_most c.digits_of.result.third d.r.z S.third_z d.third h.2 s.2;
      e = omega (arith, e, s1);
      i = omega (arith, i, s2);
    }

pub returns-clause-number : goal.returns-clause-number
returns-clause-number g c = search (arith, number_of_digits)

pub returns-clause-below : goal.returns-clause-below
returns-clause-below g c = digits_below g.row.D c.args.lattice.now c.args.v.now c.mixed.result c.digits_of.ensures.stair (returns-clause-number g c)
