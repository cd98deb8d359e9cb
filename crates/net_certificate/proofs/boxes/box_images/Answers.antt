-- Of `box_images`: what `vertex_at` and `image_of` require; the loop over `i`; what it ensures.
use Rattle.std.proofs.Common.{◌≡◌, ◌<◌, ◌≤◌, ◌*◌, ℕ, lit<, sym, subst, ap, ◌∙◌, arith}
use Rattle.std.proofs.{Math.Nat.mul-le-mul, lemmas.Result.err_from_is_err_and}
use Rattle.periodic_net.specs.Limits.{most_vertices}
use Rattle.periodic_net.specs.Graph.{Graph, Vertex}
use Rattle.map_check.specs.{Layouts.box_size, Layouts.vertex_at, Conditions.most_period}
use Rattle.net_certificate.specs.Tables.{IsImageOf}
use Rattle.net_certificate.proofs.BoxLists.{all_images, one_more, place_inside}
use Rattle.net_certificate.proofs.boxes.box_images.Goals as goal

pub vertex_at-w-requires-clause-inside : goal.vertex_at-w-requires-clause-inside
vertex_at-w-requires-clause-inside g c =
    let n = c.vertices.result in let b = box_size g.row.D c.args.m in let few = c.vertices.ensures.small in
    let limit : n * b ≤ most_vertices * b = mul-le-mul (omega (arith, few, c.vertices.ensures.count)) (omega arith) in
    omega (arith, limit, c.entries-count.ensures, c.loop-i-test.true)

pub image_of-requires : goal.image_of-requires
image_of-requires g c =
    let G = c.args.here.now.net.graph in let m = c.args.m in let d = g.row.D in
    let dimension = ap (λ (H : Graph). H.dimension) (sym c.graph.ensures) ∙ c.vertices.ensures.parameter in
    let count = c.entries-count.ensures ∙ ap (λ (n : ℕ). n * box_size d m) (c.vertices.ensures.count ∙ ap (λ (H : Graph). H.vertices) c.graph.ensures) in
    let inside = subst (λ (n : ℕ). c.loop-i.i < n) count c.loop-i-test.true in
    let r = place_inside G d m most_period c.loop-i.i c.requires.one_key.one_list.here dimension c.requires.from c.requires.to inside c.vertex_at-w.result
    c.vertex_at-w.ensures in
    let q = c.requires in
    (lit< tt, (lit< tt, (lit< tt, (q.one_key, (q.ends, (q.cells, (q.first, (q.second, (q.third, (r.0, r.1))))))))))

pub loop-i-preserved : goal.loop-i-preserved
loop-i-preserved g c =
    let S = c.args.here.now in let T = c.args.there.now in
    let dimension = ap (λ (H : Graph). H.dimension) (sym c.graph.ensures) ∙ c.vertices.ensures.parameter in
    let is = c.vertex_at-w.ensures ∙ ap (λ (n : ℕ). vertex_at n c.args.m c.loop-i.i) (sym dimension) in
    one_more S T c.args.m c.loop-i.i c.loop-i.found.items c.push.new.self.items c.image_of.result c.loop-i.invariant
    (subst (λ (w : Vertex). IsImageOf S T w c.image_of.result) is c.image_of.ensures) c.in_ok-push.ensures.items

pub returns : goal.returns
returns g c =
    let S = c.args.here.now in let T = c.args.there.now in let m = c.args.m in
    let dimension = ap (λ (H : Graph). H.dimension) (sym c.graph.ensures) ∙ c.vertices.ensures.parameter in
    let count = c.entries-count.ensures ∙ ap (λ (n : ℕ). n * box_size g.row.D m) (c.vertices.ensures.count ∙ ap (λ (H : Graph). H.vertices) c.graph.ensures)
    ∙ ap (λ (n : ℕ). S.net.graph.vertices * box_size n m) (sym dimension) in
    let end = c.loop-i.auto.i-end in let past = c.loop-i-test.false in
    let all : c.loop-i.i ≡ c.entries-count.result = omega (arith, end, past) in
    all_images S T m c.requires.one_key.one_list.here c.requires.from c.loop-i.i c.loop-i.found.items (all ∙ count) c.loop-i.invariant

pub returns-in_err-push : goal.returns-in_err-push
returns-in_err-push g c = let told = err_from_is_err_and c.from_residual.result c.from_residual.ensures.1 in rw told.1 tt
