-- Of `image_of`: what it ensures; what `place_of` and `vertex_standing` require. `found` and `value` are what they share.
use Rattle.std.proofs.Common.{◌≡◌, ◌-◌, ℕ, lit<, sym, subst, ap, ◌∙◌}
use Rattle.integers.specs.{Bases.base_sum, Vectors.IsWithin, Vectors.minus, Vectors.plus}
use Rattle.periodic_net.specs.Graph.{IsQuotientVertex, Vertex, vertex}
use Rattle.periodic_net.specs.{Limits.most_vertices, Placement.base, Placement.position}
use Rattle.quotient_graph.specs.PlacedNets.{PlacedNet}
use Rattle.map_check.specs.Conditions.{most_period}
use Rattle.standard_map.{specs.Ends.IsEnd, specs.Ends.IsNear, specs.Standing.StandsSomewhere, specs.Turns.end_over, proofs.CallerLemmas.found_end}
use Rattle.net_certificate.proofs.BoxLists.{image_is, image_place, some_stands}
use Rattle.net_certificate.proofs.boxes.image_of.{Given.Over, Goals.After-end_of-end, Goals.After-place_of-place}
use Rattle.net_certificate.proofs.boxes.image_of.Goals as goal

-- the end is one, near, and over the class of the vertex
found : (g : Over) (c : After-end_of-end g) → let e = c.end_of-end.result in
    IsEnd c.args.here.now c.args.there.now e × IsNear (most_vertices - 1) e × (e.over ≡ c.args.w.now.over)
found g c =
    let w = c.args.w.now in
    let is = c.end_of-end.ensures ∙ ap (λ (x : Vertex). end_over c.args.ends.now x.over) c.w.view_is in
    found_end c.args.here.now c.args.there.now c.args.ends.now c.requires.ends w.over c.requires.vertex.over c.end_of-end.result is

-- where the image stands
value : (g : Over) (c : After-place_of-place g)
    → c.place_of-place.result ≡ image_place c.args.here.now c.args.there.now c.requires.one_key c.end_of-end.result c.args.cells.now c.args.w.now
value g c =
    let C = c.args.cells.now in let e = c.end_of-end.result in let place = c.place_of-place in
    place.ensures.value
    ∙ ap (λ (n : PlacedNet). plus (plus (base n.placement c.origin.result) e.at) (base_sum C (minus c.w.inside.cell e.shift))) c.placed.ensures.net
    ∙ ap (λ (u : ℕ). plus (plus (base c.args.there.now.net.placement u) e.at) (base_sum C (minus c.w.inside.cell e.shift))) c.origin.ensures
    ∙ ap (λ (x : Vertex). plus (plus (base c.args.there.now.net.placement c.args.there.now.origin) e.at) (base_sum C (minus x.cell e.shift))) c.w.view_is

pub place_of-place-requires : goal.place_of-place-requires
place_of-place-requires g c =
    let r = found g (goal.at.place_of-place-requires g c).After-end_of-end in
    let origin = subst (λ (n : PlacedNet). IsQuotientVertex n.graph c.origin.result) (sym c.placed.ensures.net)
    (subst (IsQuotientVertex c.args.there.now.net.graph) (sym c.origin.ensures) c.requires.one_key.same_there.origin.is_vertex) in
    let small = subst (λ (x : Vertex). IsWithin most_period x.cell) (sym c.w.view_is) c.requires.small in
    (lit< tt, (lit< tt, (origin, (r.1, (c.requires.first, (c.requires.second, (c.requires.third, small)))))))

pub vertex_standing-v-requires : goal.vertex_standing-v-requires
vertex_standing-v-requires g c =
    let r = found g (goal.at.vertex_standing-v-requires g c).After-end_of-end in
    let place = c.place_of-place.result in
    let stands = some_stands c.args.here.now c.args.there.now c.requires.one_key c.end_of-end.result r.0 c.args.cells.now c.requires.cells c.args.w.now
    c.requires.vertex r.2 place (value g (goal.at.vertex_standing-v-requires g c).After-place_of-place) in
    (lit< tt, (c.place_of-place.ensures.within, subst (λ (n : PlacedNet). StandsSomewhere n place) (sym c.placed-2.ensures.net) stands))

pub returns : goal.returns
returns g c =
    let r = found g (goal.at.returns g c).After-end_of-end in
    let v = c.vertex_standing-v.result.0 in let t = c.vertex_standing-v.result.1 in
    let net = c.placed-2.ensures.net in
    let stands = subst (λ (n : PlacedNet). position n.placement (vertex v t) ≡ c.place_of-place.result) net c.vertex_standing-v.ensures.place in
    image_is c.args.here.now c.args.there.now c.requires.one_key c.end_of-end.result r.0 c.args.cells.now c.requires.cells c.args.w.now c.requires.vertex r.2
    v t (subst (λ (n : PlacedNet). IsQuotientVertex n.graph v) net c.vertex_standing-v.ensures.vertex)
    (stands ∙ value g (goal.at.returns g c).After-place_of-place)
