use Rattle.std.proofs.Common.{◌≤◌, ◌^◌, unsigned_abs, sym, subst, ◌∙◌, arith}
use Rattle.std.proofs.lemmas.Int.{to_z-of_z}
use Rattle.integers.{specs.Vectors.IsWithin, proofs.vectors.Bounds.fits_from_bound}
use Rattle.periodic_net.specs.Limits.{most_walk}
use Rattle.connected_dim.proofs.PathSteps.{sparse_within}
use Rattle.connected_dim.proofs.sparse.sparse_colour.Goals as goal

pub residue-requires-clause-x : goal.residue-requires-clause-x
residue-requires-clause-x g c =
    let walk = subst (IsWithin most_walk) (sym (c.to_triple.ensures.value ∙ c.shift_of.ensures)) c.requires.walk in
    let within : unsigned_abs c.dot.result ≤ 2 ^ 82 = sparse_within (unsigned_abs c.dot.result) (c.dot.ensures.within (2 ^ 60) most_walk c.requires.c walk) in
    let f = fits_from_bound c.dot.result (2 ^ 82) (omega arith) within in simp to_z-of_z within
