-- Of `first_losing_cell`: the loop over `p`; the clause `first`; what `first_place`, `image_in`, `is_kept` and `next_cell` require; that numbers fit.
use Rattle.std.proofs.Common.{◌∙◌, ◌+◌, ◌-◌, ◌*◌, ◌^◌, ◌<◌, ℕ, List, length, sym, subst, arith}
use Rattle.std.proofs.{Math.Nat.le_trans, lemmas.Bool.false≢true}
use Rattle.integers.{specs.Vectors.Vector, proofs.vectors.Bounds.wider}
use Rattle.periodic_net.specs.{Graph.Vertex, Graph.vertex, Maps.IsInBox}
use Rattle.quotient_graph.specs.Stars.{IsArcFrom}
use Rattle.map_check.specs.Layouts.{box_size, cell_at, table_of}
use Rattle.map_check.proofs.Drawing.{image_here, place_here, has_images}
use Rattle.map_check.{specs.Images.image_at, specs.Images.IsImageOf, specs.Places.KeepsArc, proofs.Layouts.cell_in_box, proofs.Layouts.each_more}
use Rattle.map_check.proofs.lost.first_losing_cell.Goals as goal

pub first_place-first-requires-clause-over_to : goal.first_place-first-requires-clause-over_to
first_place-first-requires-clause-over_to g c = le_trans c.requires.over.1 c.recall.ensures.small.vertices

pub overflow_add-first : goal.overflow_add-first
overflow_add-first g c =
    let m = c.args.map.now in let e = c.recall.ensures in let t = c.loop-p-test.true in
    let n = c.requires.end in let l : c.loop-p.p < box_size g.row.D m.m = omega (arith, t, n) in
    let has = has_images c.args.g.now c.args.h.now g.row.D m.m m.images m.base e.parameter c.recall-2.ensures.parameter e.two_or_three c.requires.map c.args.u
    c.requires.over in
    let p = place_here g.row.D m.m m.images m.base e.two_or_three c.requires.map.period_from c.args.u c.loop-p.p l has in
    let b = subst (λ (n : ℕ). n + c.loop-p.p < length m.images) (sym c.first_place-first.ensures.value) p in
    let few = c.requires.map.few in
    omega (arith, b, few)

pub image_in-x-requires-clause-inside : goal.image_in-x-requires-clause-inside
image_in-x-requires-clause-inside g c =
    let m = c.args.map.now in let e = c.recall.ensures in let t = c.loop-p-test.true in
    let n = c.requires.end in let l : c.loop-p.p < box_size g.row.D m.m = omega (arith, t, n) in
    let has = has_images c.args.g.now c.args.h.now g.row.D m.m m.images m.base e.parameter c.recall-2.ensures.parameter e.two_or_three c.requires.map c.args.u
    c.requires.over in
    let p = place_here g.row.D m.m m.images m.base e.two_or_three c.requires.map.period_from c.args.u c.loop-p.p l has in
    subst (λ (xs : List Vertex). c.first_place-first.result + c.loop-p.p < length xs) (sym c.as_slice.ensures)
    (subst (λ (n : ℕ). n + c.loop-p.p < length m.images) (sym c.first_place-first.ensures.value) p)

pub is_kept-requires : goal.is_kept-requires
is_kept-requires g c =
    let m = c.args.map.now in let e = c.recall.ensures in let r = c.requires in let a = c.args.arc.now.arc in
    let p = c.loop-p.p in let t = c.loop-p-test.true in let n = r.end in
    let l : p < box_size g.row.D m.m = omega (arith, t, n) in
    let table = table_of g.row.D m.m m.images m.base in let cell = sym c.loop-p.invariant.cell in
    let box = subst (IsInBox g.row.D m.m) cell (cell_in_box g.row.D m.m e.two_or_three r.map.period_from p l) in
    let here = image_here g.row.D m.m m.images m.base e.two_or_three r.map.period_from c.args.u p l in
    let there = subst (λ (n : ℕ). IsImageOf g.row.D table (vertex n (cell_at g.row.D m.m p)) (image_at m.images ((c.args.u - 1) * box_size g.row.D m.m + p)))
    (sym r.arc.from) here in
    let found = subst (λ (v : Vector). IsImageOf g.row.D table (vertex a.from v) (image_at m.images ((c.args.u - 1) * box_size g.row.D m.m + p))) cell there in
    let value = c.image_in-x.ensures.value ∙ (λ i. image_at (c.as_slice.ensures i) (c.first_place-first.ensures.value i + p)) in
    let image = subst (IsImageOf g.row.D table (vertex a.from c.loop-p.cell)) (sym value) found in
    let small = wider (2 ^ 38) (2 ^ 61) (omega arith) c.image_in-x.result.cell c.image_in-x.ensures.small in
    let arc = subst (λ (n : ℕ). IsArcFrom c.args.g.now n a) (sym r.arc.from) r.arc in
    (omega arith, (omega arith, (r.map, (r.rows, (box, (image, (small, (arc, r.carried))))))))

pub returns-then-not-is_kept-clause-first : goal.returns-then-not-is_kept-clause-first
returns-then-not-is_kept-clause-first g c = λ f t.
    let a = c.args.arc.now.arc in
    record {
      before = c.loop-p.invariant.kept f t;
      lost = λ _ j. false≢true (sym c.if-not-is_kept.true ∙ (c.is_kept.ensures f t).1
          (subst (λ (v : Vector). KeepsArc c.args.h.now f (vertex a.from v) a) (sym c.loop-p.invariant.cell) j));
    }

pub next_cell-cell-requires-clause-inside : goal.next_cell-cell-requires-clause-inside
next_cell-cell-requires-clause-inside g c =
    let m = c.args.map.now in let t = c.loop-p-test.true in let n = c.requires.end in
    let l : c.loop-p.p < box_size g.row.D m.m = omega (arith, t, n) in
    subst (IsInBox g.row.D m.m) (sym c.loop-p.invariant.cell) (cell_in_box g.row.D m.m c.recall.ensures.two_or_three c.requires.map.period_from c.loop-p.p l)

pub loop-p-preserved : goal.loop-p-preserved
loop-p-preserved g c =
    let a = c.args.arc.now.arc in
    record {
      cell = c.next_cell-cell.ensures c.loop-p.p c.loop-p.invariant.cell;
      kept = λ f t.
          each_more (λ (q : ℕ). KeepsArc c.args.h.now f (vertex a.from (cell_at g.row.D c.args.map.now.m q)) a) c.loop-p.p (c.loop-p.invariant.kept f t)
          (subst (λ (v : Vector). KeepsArc c.args.h.now f (vertex a.from v) a) c.loop-p.invariant.cell ((c.is_kept.ensures f t).0 c.if-not-is_kept.false));
    }
