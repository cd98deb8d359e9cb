-- Of `image_of_end`: the clause `image`; what `place_of` and `image_in` require.
use Rattle.std.proofs.Common.{◌≡◌, ◌<◌, ◌∙◌, ℕ, List, length, sym, subst, ap}
use Rattle.integers.{specs.Bases.Base, specs.Bases.base_sum, specs.Vectors.plus, proofs.vectors.Laws.plus_dimension}
use Rattle.periodic_net.specs.{Graph.Vertex, Graph.vertex, Maps.IsInBox}
use Rattle.map_check.specs.{Layouts.place_of, Layouts.table_of, Images.image_at, Images.IsImageOf}
use Rattle.map_check.proofs.Drawing.{box_of_split, image_is, place_inside}
use Rattle.map_check.proofs.images.image_of_end.Goals as goal

pub place_of-at-requires-clause-inside : goal.place_of-at-requires-clause-inside
place_of-at-requires-clause-inside g c =
    let D = g.row.D in let m = c.args.map.now in let a = c.args.arc.now.arc in
    let p = c.parts_of_end-parts.result in
    let flat = plus_dimension D c.args.cell.now a.shift c.requires.cell.dimension c.requires.flat in
    subst (IsInBox D m.m) (sym c.to_triple.ensures) (box_of_split D m.m (plus c.args.cell.now a.shift) p.rest p.steps flat c.parts_of_end-parts.ensures.split).0

pub image_in-image-requires-clause-inside : goal.image_in-image-requires-clause-inside
image_in-image-requires-clause-inside g c =
    let D = g.row.D in let m = c.args.map.now in let a = c.args.arc.now.arc in
    let p = c.parts_of_end-parts.result in
    let flat = plus_dimension D c.args.cell.now a.shift c.requires.cell.dimension c.requires.flat in
    let box = (box_of_split D m.m (plus c.args.cell.now a.shift) p.rest p.steps flat c.parts_of_end-parts.ensures.split).0 in
    let e : c.place_of-at.result ≡ place_of D m.m (vertex a.to p.rest) = c.place_of-at.ensures
    ∙ (λ i. place_of D m.m (vertex (c.arc.view_is i).arc.to (c.to_triple.ensures i))) in
    let l = place_inside D m.m m.images a.to p.rest c.requires.table.two_or_three c.requires.over box in
    subst (λ (xs : List Vertex). c.place_of-at.result < length xs) (sym c.as_slice.ensures) (subst (λ (n : ℕ). n < length m.images) (sym e) l)

pub returns-clause-image : goal.returns-clause-image
returns-clause-image g c =
    let D = g.row.D in let m = c.args.map.now in let a = c.args.arc.now.arc in
    let p = c.parts_of_end-parts.result in
    let flat = plus_dimension D c.args.cell.now a.shift c.requires.cell.dimension c.requires.flat in
    let w = vertex a.to (plus c.args.cell.now a.shift) in
    let e : c.place_of-at.result ≡ place_of D m.m (vertex a.to p.rest) = c.place_of-at.ensures
    ∙ (λ i. place_of D m.m (vertex (c.arc.view_is i).arc.to (c.to_triple.ensures i))) in
    let x = c.image_in-image.ensures.value ∙ (λ i. image_at (c.as_slice.ensures i) (e i)) in
    let t = c.to_triple-2.ensures ∙ c.sum_of.ensures.value ∙ ap (λ (b : Base). base_sum b p.steps) c.requires.rows.same in
    subst (IsImageOf D (table_of D m.m m.images m.base) w) (sym c.moved_by.ensures.value)
    (image_is D m.m m.images m.base w c.image_in-image.result p.rest p.steps c.to_triple-2.result flat c.parts_of_end-parts.ensures.split x t)
