use Rattle.std.proofs.Common.{◌≤◌, ◌^◌, unsigned_abs, sym, subst, ◌∙◌, arith}
use Rattle.std.proofs.lemmas.Int.{to_z-of_z}
use Rattle.integers.{specs.Vectors.IsWithin, proofs.vectors.Bounds.fits_from_bound}
use Rattle.periodic_net.specs.Limits.{most_walk}
use Rattle.connected_dim.{specs.Bounds.most_normal, proofs.PathSteps.flat_within}
use Rattle.connected_dim.proofs.flat.flat_colour.Goals as goal

pub negative-requires : goal.negative-requires
negative-requires g c =
    let walk = subst (IsWithin most_walk) (sym (c.to_triple.ensures.value ∙ c.shift_of.ensures)) c.requires.walk in
    let within : unsigned_abs c.dot.result ≤ 2 ^ 62 = flat_within (unsigned_abs c.dot.result) (c.dot.ensures.within most_normal most_walk c.requires.c walk) in
    let f = fits_from_bound c.dot.result (2 ^ 62) (omega arith) within in simp to_z-of_z within
