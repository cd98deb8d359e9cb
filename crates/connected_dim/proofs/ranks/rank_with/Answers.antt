-- Of `rank_with`: what `flat_volume` and `space_volume` require; what it ensures.
use Rattle.std.proofs.Common.{◌≢◌, refl, sym, subst, lit<, FitsSigned}
use Rattle.std.{proofs.lemmas.Int.to_z-of_z, proofs.lemmas.List.Elements.All-contains, specs.Int.w128}
use Rattle.integers.specs.Vectors.{zero_vector, IsWithin}
use Rattle.connected_dim.proofs.Normals.{full_flat, full_space, plane_in_space}
use Rattle.connected_dim.specs.Full.{IsVolume}
use Rattle.periodic_net.specs.Limits.{most_closed}
use Rattle.connected_dim.proofs.ranks.rank_with.Goals as goal

pub flat_volume-requires-clause-some : goal.flat_volume-requires-clause-some
flat_volume-requires-clause-some g c = c.normal-c.ensures.flat c.if-this-eq2.true (subst (λ v. v ≢ zero_vector) (sym c.normal-c.ensures.value) c.requires.apart)

pub returns-then-this-eq2 : goal.returns-then-this-eq2
returns-then-this-eq2 g c =
    let f : FitsSigned w128 c.flat_volume.result = record { sfits = c.flat_volume.type_inv } in
    let e = c.flat_volume.ensures in
    subst (IsVolume g.row.D c.args.gs.now) (sym (to_z-of_z w128 c.flat_volume.result f))
    (full_flat g.row.D c.args.gs.now c.args.a.now c.args.b.now c.normal-c.result c.flat_volume.result c.if-this-eq2.true c.requires.a c.requires.b
    c.normal-c.ensures.value e.value e.from e.to)

pub space_volume-requires : goal.space_volume-requires
space_volume-requires g c =
    let within = All-contains (IsWithin most_closed) c.args.gs.now c.in-Some.g c.requires.small c.in-Some.ensures.found in
    (lit< tt, (c.normal-c.ensures.within, (within, c.in-Some.ensures.some)))

pub returns-in-Some : goal.returns-in-Some
returns-in-Some g c =
    let f : FitsSigned w128 c.space_volume.result = record { sfits = c.space_volume.type_inv } in
    let e = c.space_volume.ensures in
    subst (IsVolume g.row.D c.args.gs.now) (sym (to_z-of_z w128 c.space_volume.result f))
    (full_space g.row.D c.args.gs.now c.args.a.now c.args.b.now c.in-Some.g c.normal-c.result c.space_volume.result c.if-this-eq2.false c.requires.a
    c.requires.b c.in-Some.ensures.found c.normal-c.ensures.value e.value e.from e.to)

pub returns-in-None : goal.returns-in-None
returns-in-None g c = (
  plane_in_space g.row.D c.args.gs.now c.args.a.now c.args.b.now c.normal-c.result c.reduction.result c.if-this-eq2.false c.requires.a c.requires.b
      c.requires.apart c.normal-c.ensures.value (c.in-None.ensures.none refl) c.reduction.ensures.reduction,
  c.reduction.ensures.within,
)
