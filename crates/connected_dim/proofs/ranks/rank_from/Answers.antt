use Rattle.std.proofs.Common.{◌≡◌, pos, of_z, to_z, refl, sym, ap, subst, ◌∙◌, arith}
use Rattle.std.{proofs.lemmas.Int.to_z-of_z, proofs.lemmas.List.Elements.All-contains, specs.Int.w128}
use Rattle.integers.{specs.Vectors.Vector, specs.Vectors.IsWithin, proofs.vectors.Bounds.fits_from_bound}
use Rattle.periodic_net.specs.Limits.{most_closed}
use Rattle.connected_dim.proofs.Normals.{line_axis, line_across}
use Rattle.connected_dim.proofs.ranks.rank_from.Goals as goal

pub returns-in-None : goal.returns-in-None
returns-in-None g c =
    let near = subst (IsWithin most_closed) (sym c.a.view_is) (All-contains (IsWithin most_closed) c.args.gs.now c.args.a.now c.requires.small c.requires.a) in
    let f = fits_from_bound c.a.inside.x most_closed (omega arith) near.0 in
    let x : c.a.inside.x ≡ pos 0 = sym (to_z-of_z w128 c.a.inside.x f) ∙ ap (to_z w128) c.if-a-eq0.true in
    let first = ap (λ (t : Vector). t.x) (sym c.a.view_is) ∙ x in
    (line_axis g.row.D c.args.gs.now c.args.a.now c.axis.result c.axis.ensures.value c.requires.some first (c.in-None.ensures.none refl), c.axis.ensures.within)

pub returns-in-None-2 : goal.returns-in-None-2
returns-in-None-2 g c = (
  line_across g.row.D c.args.gs.now c.args.a.now c.across.result c.reduction.result c.requires.a
      (λ e. c.if-a-eq0.false (ap (of_z w128) (ap (λ (t : Vector). t.x) c.a.view_is ∙ e)))
      (c.in-None.ensures.none refl) c.across.ensures.value c.reduction.ensures.reduction,
  c.reduction.ensures.within,
)
