use Rattle.std.proofs.Common.{◌≢◌, pos, subst, sym, ◌∙◌}
use Rattle.integers.specs.Vectors.{vector, zero_vector, IsWithin}
use Rattle.connected_dim.specs.Bounds.{most_normal}
use Rattle.connected_dim.proofs.Normals.{divisor_found, divisor_within, same_abs}
use Rattle.connected_dim.proofs.reduction.common_divisor.Goals as goal

pub returns-clause-divisor : goal.returns-clause-divisor
returns-clause-divisor c =
    let v = vector c.v.inside.x c.v.inside.y c.v.inside.z in
    let some = subst (λ v. v ≢ zero_vector) (sym c.v.view_is) c.requires.some in
    let near = subst (IsWithin most_normal) (sym c.v.view_is) c.requires.within in
    rw c.v.view_is at (divisor_found v c.unsigned_abs.result c.unsigned_abs-2.result c.unsigned_abs-3.result c.gcd-first.result c.gcd.result some
    (c.unsigned_abs.ensures.value ∙ same_abs c.v.inside.x near.0) (c.unsigned_abs-2.ensures.value ∙ same_abs c.v.inside.y near.1)
    (c.unsigned_abs-3.ensures.value ∙ same_abs c.v.inside.z near.2)
    c.gcd-first.ensures.greatest c.gcd-first.ensures.combination c.gcd.ensures.greatest c.gcd.ensures.combination)

pub returns-clause-within : goal.returns-clause-within
returns-clause-within c = divisor_within most_normal c.args.v.now (pos c.gcd.result) c.requires.some c.requires.within (returns-clause-divisor c)
