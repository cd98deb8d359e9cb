use Rattle.std.proofs.{Common.◌^◌, Common.◌*◌, Common.sym, Common.subst, Common.arith, lemmas.Int.to_z-of_z}
use Rattle.integers.specs.Vectors.{times, IsWithin}
use Rattle.integers.proofs.vectors.Bounds.{bounded_times, wider}
use Rattle.map_check.proofs.small_rows.multiple.Goals as goal

pub times-requires : goal.times-requires
times-requires c =
    let r = c.ranges.k in
    simp to_z-of_z
    (wider (2 ^ 20 * 2 ^ 38) (2 ^ 61) (omega arith) (times c.args.k c.args.v.now)
    (bounded_times c.args.k c.args.v.now (2 ^ 20) (2 ^ 38) c.requires.factor c.requires.shift))

pub returns-clause-within : goal.returns-clause-within
returns-clause-within c =
    let r = c.ranges.k in let e = simp to_z-of_z at c.times.ensures in
    subst (IsWithin (2 ^ 58)) (sym e)
    (wider (2 ^ 20 * 2 ^ 38) (2 ^ 58) (omega arith) (times c.args.k c.args.v.now)
    (bounded_times c.args.k c.args.v.now (2 ^ 20) (2 ^ 38) c.requires.factor c.requires.shift))
