use Rattle.std.proofs.{Common.◌≡◌, Common.subst, Common.refl, Common.unsigned_abs, lemmas.Int.to_z-of_z}
use Rattle.quotient_graph.specs.PlacedNets.{placement_of}
use Rattle.barycentre.{specs.Tested.AreBalanced, specs.Tested.AreCoprime, proofs.Existing.coprime_normal}
use Rattle.barycentre.proofs.testing.are_normal.Goals as goal

pub returns-clause-normal : goal.returns-clause-normal
returns-clause-normal g c t =
    let rd = c.ranges.d0 in let r = c.requires in let G = c.args.g.now in let at = c.args.at.now in
    let size : c.unsigned_abs.result ≡ unsigned_abs c.args.d0 = simp to_z-of_z at c.unsigned_abs.ensures.value in
    let coprime : AreCoprime (unsigned_abs c.args.d0) at = subst (λ n. AreCoprime n at) size (c.if-not-are_coprime.ensures refl) in
    let balanced : AreBalanced G (placement_of c.args.d0 at) = simp to_z-of_z at (c.are_balanced_within.ensures.balanced t) in
    coprime_normal G c.args.d0 at r.positive r.count r.flat coprime balanced
