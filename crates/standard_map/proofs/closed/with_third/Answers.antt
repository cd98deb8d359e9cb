-- Of `with_third`: what `first_off` requires; what it ensures; that some turn is off the plane.
use Rattle.std.proofs.Common.{◌≢◌, pos, lit<, sym, subst, ap, ◌∙◌}
use Rattle.integers.specs.Vectors.{Vector, cross, dot, zero_vector}
use Rattle.standard_map.specs.Turns.{Turn}
use Rattle.standard_map.proofs.EdgeTurns.{flat_turns, not_in_plane, space_turns}
use Rattle.standard_map.proofs.closed.with_third.Goals as goal

pub first_off-requires : goal.first_off-requires
first_off-requires g c = (lit< tt, (c.requires.small, c.normal.ensures.within))

pub unreachable-requires : goal.unreachable-requires
unreachable-requires g c =
    let e = c.normal.ensures.value ∙ (λ i. cross (c.a.view_is i).shift (c.b.view_is i).shift) in
    not_in_plane g.row.D c.args.turns.now c.requires.full c.if-this-eq2.false c.normal.result (subst (λ v. v ≢ zero_vector) (sym e) c.requires.apart)
    (c.first_off.ensures.none c.in-None.is)

pub returns : goal.returns
returns g c =
    let t = c.three-in-Some.ensures in
    let e = c.normal.ensures.value ∙ (λ i. cross (c.a.view_is i).shift (c.b.view_is i).shift) in
    let off = subst (λ (v : Vector). dot v c.in-Some.t.shift ≢ pos 0) e c.in-Some.ensures.some in
    space_turns g.row.D c.args.turns.now c.args.a.now c.args.b.now c.in-Some.t c.requires.a c.requires.b c.in-Some.ensures.found off c.if-this-eq2.false
    c.three-in-Some.result.shifts c.three-in-Some.result.images t.first t.second
    (t.third ∙ c.to_triple.ensures.value ∙ ap (λ (x : Turn). x.shift) c.t.view_is) t.first_image t.second_image
    (t.third_image ∙ c.to_triple-in-Some.ensures.value ∙ ap (λ (x : Turn). x.image) c.t.view_is)

pub returns-then-this-eq2 : goal.returns-then-this-eq2
returns-then-this-eq2 g c =
    let t = c.three.ensures in
    flat_turns g.row.D c.args.turns.now c.args.a.now c.args.b.now c.requires.a c.requires.b c.requires.apart t.first_dimension t.second_dimension
    c.if-this-eq2.true
    c.three.result.shifts c.three.result.images t.first t.second t.third t.first_image t.second_image t.third_image
