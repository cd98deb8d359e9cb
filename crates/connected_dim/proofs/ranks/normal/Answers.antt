use Rattle.std.proofs.Common.{◌≢◌, sym, subst}
use Rattle.integers.specs.Vectors.{zero_vector, IsWithin}
use Rattle.periodic_net.specs.Limits.{most_closed}
use Rattle.connected_dim.proofs.Normals.{flat_cross}
use Rattle.connected_dim.proofs.ranks.normal.Goals as goal

pub returns-clause-within : goal.returns-clause-within
returns-clause-within g c =
    c.cross.ensures.within most_closed most_closed (subst (IsWithin most_closed) (sym c.to_triple.ensures.value) c.requires.a)
    (subst (IsWithin most_closed) (sym c.to_triple-2.ensures.value) c.requires.b)

pub returns-clause-flat : goal.returns-clause-flat
returns-clause-flat g c d some =
    let e = c.cross.ensures.value in
    rw e (flat_cross c.to_triple.result c.to_triple-2.result (c.to_triple.ensures.dimension d) (c.to_triple-2.ensures.dimension d)
    (subst (λ v. v ≢ zero_vector) e some))
