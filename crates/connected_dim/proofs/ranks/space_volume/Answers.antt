use Rattle.std.proofs.{Common.◌≤◌, Common.unsigned_abs, Common.sym, Common.subst, Common.arith, lemmas.Int.to_z-of_z}
use Rattle.integers.specs.Vectors.{IsWithin}
use Rattle.integers.proofs.vectors.Bounds.{fits_from_bound}
use Rattle.periodic_net.specs.Limits.{most_closed}
use Rattle.connected_dim.specs.Bounds.{most_normal, most_volume}
use Rattle.connected_dim.proofs.ranks.space_volume.Goals as goal

pub volume-requires-clause-within : goal.volume-requires-clause-within
volume-requires-clause-within g c =
    let near = subst (IsWithin most_closed) (sym c.to_triple.ensures.value) c.requires.g in
    let within : unsigned_abs c.dot-product.result ≤ most_volume = c.dot-product.ensures.within most_normal most_closed c.requires.c near in
    let f = fits_from_bound c.dot-product.result most_volume (omega arith) within in simp to_z-of_z within
