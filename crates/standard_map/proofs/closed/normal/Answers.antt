use Rattle.std.proofs.Common.{sym, subst}
use Rattle.integers.specs.Vectors.{IsWithin}
use Rattle.periodic_net.specs.Limits.{most_closed}
use Rattle.standard_map.proofs.closed.normal.Goals as goal

pub returns-clause-within : goal.returns-clause-within
returns-clause-within g c =
    c.cross.ensures.within most_closed most_closed (subst (IsWithin most_closed) (sym c.to_triple.ensures.value) c.requires.a)
    (subst (IsWithin most_closed) (sym c.to_triple-2.ensures.value) c.requires.b)
