use Rattle.std.proofs.Common.{◌≡◌, subst, arith}
use Rattle.std.{proofs.lemmas.Int.to_z-of_z, specs.Int.w128}
use Rattle.integers.{specs.Vectors.times, proofs.vectors.Bounds.fits_from_bound}
use Rattle.connected_dim.{proofs.Normals.divisor_within, proofs.Normals.reduction_is, specs.Bounds.most_normal}
use Rattle.connected_dim.proofs.reduction.reduction.Goals as goal

pub returns-clause-reduction : goal.returns-clause-reduction
returns-clause-reduction c =
    let v = c.args.v.now in let d = c.divisor-g.result in
    let f = fits_from_bound d most_normal (omega arith) (divisor_within most_normal v d c.requires.some c.requires.within c.divisor-g.ensures) in
    reduction_is v c.over.result c.forward.result d c.divisor-g.ensures
    (subst (λ g. v ≡ times g c.over.result) (to_z-of_z w128 d f) c.over.ensures.value) c.forward.ensures.either c.forward.ensures.positive

pub forward-requires-clause-within : goal.forward-requires-clause-within
forward-requires-clause-within c = c.over.ensures.within most_normal c.requires.within
