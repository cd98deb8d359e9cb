-- Of `verdict_on_images`: what it ensures; what `first_copy` and `verdict_on_degrees` require.
use Rattle.std.proofs.Common.{◌*◌, ◌≤◌, ◌∙◌, ℕ, List, length, sym, subst, ap, arith}
use Rattle.std.specs.List.{All}
use Rattle.integers.specs.Vectors.{Vector}
use Rattle.sublattice.specs.Sublattices.{base_of, index_of}
use Rattle.periodic_net.specs.Graph.{Vertex}
use Rattle.map_check.specs.{Layouts.table_for, Conditions.most_images, Conditions.IsImage, Faults.IsVerdict, Images.AreNoCopies, Images.IsFirstCopy}
use Rattle.map_check.specs.{declared.verdict.MapFault.MapFault, declared.verdict.Verdict.TheVariants.No}
use Rattle.map_check.proofs.Verification.{verdict_of_copy, verdict_of_no_copy, some_image, factor_positive, count_of}
use Rattle.map_check.proofs.check.verdict_on_images.Goals as goal

pub first_copy-requires : goal.first_copy-requires
first_copy-requires g c =
    let G = c.args.g.now in let H = c.args.h.now in let m = c.args.map.now in let e = c.recall.ensures in
    let e' = c.recall-2.ensures in let r = c.requires in let n = c.vertices.ensures in
    let s = sym c.as_slice.ensures in
    let images = subst (λ (d : ℕ). All (IsImage d H.vertices) m.images) e'.parameter r.map.each_image in
    let here = subst (All (IsImage g.row.D c.vertices.result)) s (subst (λ (v : ℕ). All (IsImage g.row.D v) m.images) (sym n.count) images) in
    let count = count_of G H g.row.D m.m m.images m.base c.args.index e.parameter r.map r.counts r.index in
    let from = factor_positive (length m.images) H.vertices c.args.index (some_image G H m.m m.images m.base e.is_graph r.map) count in
    let dimension = ap length r.rows ∙ r.map.rows_count ∙ e.parameter in
    let index = r.index ∙ ap (λ (rows : List Vector). index_of g.row.D (base_of rows)) (sym r.rows) in
    let some = subst (λ (v : ℕ). 1 ≤ v) (sym n.count) n.is_graph.vertices in
    let small = subst (λ (v : ℕ). v ≤ 512) (sym n.count) n.small.vertices in
    let few = subst (λ (xs : List Vertex). length xs ≤ most_images) s r.map.few in
    let long = ap length (sym s) ∙ count ∙ ap (λ (v : ℕ). v * c.args.index) (sym n.count) in
    (omega arith, (e.two_or_three, (dimension, (index, (from, (some, (small, (few, (here, long)))))))))

pub verdict_on_degrees-requires : goal.verdict_on_degrees-requires
verdict_on_degrees-requires g c =
    let m = c.args.map.now in let e = c.recall.ensures in let r = c.requires in
    let t = rw c.in-None.is at c.in_ok-i.ensures in
    let u = subst (λ (xs : List Vertex). AreNoCopies g.row.D (base_of c.args.rows.now) xs (length xs)) c.as_slice.ensures t in
    let v = subst (λ (rows : List Vector). AreNoCopies g.row.D (base_of rows) m.images (length m.images)) r.rows u in
    let s = verdict_of_no_copy c.args.g.now c.args.h.now g.row.D m.m m.images m.base e.parameter c.recall-2.ensures.parameter e.two_or_three r.map r.counts v in
    (omega arith, (r.map, (r.counts, s)))

pub returns-in-Some : goal.returns-in-Some
returns-in-Some g c =
    let G = c.args.g.now in let H = c.args.h.now in let m = c.args.map.now in let e = c.recall.ensures in
    let r = c.requires in let t = rw c.in-Some.is at c.in_ok-i.ensures in
    let u = subst (λ (xs : List Vertex). IsFirstCopy g.row.D (base_of c.args.rows.now) xs c.in-Some.i) c.as_slice.ensures t in
    let v = subst (λ (rows : List Vector). IsFirstCopy g.row.D (base_of rows) m.images c.in-Some.i) r.rows u in
    λ f d. subst (λ (fault : MapFault). IsVerdict G H (table_for G m.m m.images m.base) f (No fault)) (sym c.doubled.ensures)
    (verdict_of_copy G H g.row.D m.m m.images m.base e.parameter c.recall-2.ensures.parameter e.two_or_three r.map r.counts c.in-Some.i c.vertex_of.result
    c.vertex_of.ensures v)
