use Rattle.std.{proofs.Common.sym, proofs.Common.subst, specs.Prelude.◌+◌}
use Rattle.integers.specs.Vectors.{IsWithin}
use Rattle.periodic_net.specs.Limits.{most_walk, most_shift}
use Rattle.connected_dim.proofs.closed_walks.closed_walk.Goals as goal

pub returns-clause-within : goal.returns-clause-within
returns-clause-within g c =
    let tail = subst (IsWithin most_walk) (sym c.to_vector.ensures.value) c.requires.tail in
    let step = subst (IsWithin most_shift) (sym c.to_vector-2.ensures.value) c.requires.step in
    let head = subst (IsWithin most_walk) (sym c.to_vector-3.ensures.value) c.requires.head in
    c.minus.ensures.within (most_walk + most_shift) most_walk (c.plus-there.ensures.within most_walk most_shift tail step) head
