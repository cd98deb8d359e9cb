-- Of `next_cell`: what it ensures.
use Rattle.std.proofs.Common.{ℕ, ℤ, pos, ◌≤◌, ◌≤ℤ◌, ◌+ℤ◌, ◌<ℤ◌, FitsSigned, ◌∙◌, sym, ap, subst, arith}
use Rattle.std.{specs.Int.w64, proofs.lemmas.Int.to_z-of_z}
use Rattle.integers.specs.Vectors.{vector}
use Rattle.periodic_net.specs.Maps.{IsInBox}
use Rattle.map_check.proofs.Layouts.{next_in_row, next_in_layer, next_in_box, below_of_test, not_below_of_test, part_fits, part_small, sum_fits, wide}
use Rattle.map_check.proofs.boxes.next_cell.Goals as goal

-- a part and one more fit
next_fits : (z : ℤ) (m : ℕ) → m ≤ 512 → pos 0 ≤ℤ z → z <ℤ pos m → FitsSigned w64 (z +ℤ pos 1)
next_fits z m b l h = sum_fits z (pos 1) (wide z 512 (omega arith) (part_small z m b l h)) (wide (pos 1) 1 (omega arith) (omega arith))

pub returns-then-cell-last : goal.returns-then-cell-last
returns-then-cell-last g c = λ i e.
    let m = c.args.m in let v = c.cell.inside in
    let b = subst (IsInBox g.row.D m) (sym c.cell.view_is) c.requires.inside in
    let fx = part_fits v.x m c.requires.to b.low.0 b.high.0 in
    let fy = part_fits v.y m c.requires.to b.low.1 b.high.1 in
    let fz = part_fits v.z m c.requires.to b.low.2 b.high.2 in
    let fn = next_fits v.z m c.requires.to b.low.2 b.high.2 in
    let fl : FitsSigned w64 c.from-last.result = record { sfits = c.from-last.type_inv } in
    let t : (v.z +ℤ pos 1) <ℤ c.from-last.result = below_of_test (v.z +ℤ pos 1) c.from-last.result (simp to_z-of_z at c.if-cell-last.true) in
    let k = subst (λ (s : ℤ). (v.z +ℤ pos 1) <ℤ s) (c.from-last.ensures ∙ ap pos c.last_side.ensures) t in
    simp to_z-of_z (next_in_row g.row.D m c.requires.dimension c.requires.from (vector v.x v.y v.z) i (c.cell.view_is ∙ e) k)

pub returns-then-cell-side : goal.returns-then-cell-side
returns-then-cell-side g c = λ i e.
    let m = c.args.m in let v = c.cell.inside in
    let b = subst (IsInBox g.row.D m) (sym c.cell.view_is) c.requires.inside in
    let fx = part_fits v.x m c.requires.to b.low.0 b.high.0 in
    let fy = part_fits v.y m c.requires.to b.low.1 b.high.1 in
    let fz = part_fits v.z m c.requires.to b.low.2 b.high.2 in
    let fn = next_fits v.z m c.requires.to b.low.2 b.high.2 in
    let fm = next_fits v.y m c.requires.to b.low.1 b.high.1 in
    let fl : FitsSigned w64 c.from-last.result = record { sfits = c.from-last.type_inv } in
    let fs : FitsSigned w64 c.from-side.result = record { sfits = c.from-side.type_inv } in
    let f = simp to_z-of_z at c.if-cell-last.false in
    let no = not_below_of_test (v.z +ℤ pos 1) c.from-last.result f in
    let k = subst (λ (s : ℤ). (v.z +ℤ pos 1) <ℤ s → ⊥) (c.from-last.ensures ∙ ap pos c.last_side.ensures) no in
    let t : (v.y +ℤ pos 1) <ℤ c.from-side.result = below_of_test (v.y +ℤ pos 1) c.from-side.result (simp to_z-of_z at c.if-cell-side.true) in
    let l = subst (λ (s : ℤ). (v.y +ℤ pos 1) <ℤ s) c.from-side.ensures t in
    simp to_z-of_z (next_in_layer g.row.D m c.requires.dimension c.requires.from (vector v.x v.y v.z) i (c.cell.view_is ∙ e) k l)

pub returns : goal.returns
returns g c = λ i e.
    let m = c.args.m in let v = c.cell.inside in
    let b = subst (IsInBox g.row.D m) (sym c.cell.view_is) c.requires.inside in
    let fx = part_fits v.x m c.requires.to b.low.0 b.high.0 in
    let fy = part_fits v.y m c.requires.to b.low.1 b.high.1 in
    let fz = part_fits v.z m c.requires.to b.low.2 b.high.2 in
    let fn = next_fits v.z m c.requires.to b.low.2 b.high.2 in
    let fm = next_fits v.y m c.requires.to b.low.1 b.high.1 in
    let fo = next_fits v.x m c.requires.to b.low.0 b.high.0 in
    let fl : FitsSigned w64 c.from-last.result = record { sfits = c.from-last.type_inv } in
    let fs : FitsSigned w64 c.from-side.result = record { sfits = c.from-side.type_inv } in
    let f = simp to_z-of_z at c.if-cell-last.false in
    let no = not_below_of_test (v.z +ℤ pos 1) c.from-last.result f in
    let k = subst (λ (s : ℤ). (v.z +ℤ pos 1) <ℤ s → ⊥) (c.from-last.ensures ∙ ap pos c.last_side.ensures) no in
    let h = simp to_z-of_z at c.if-cell-side.false in
    let none = not_below_of_test (v.y +ℤ pos 1) c.from-side.result h in
    let l = subst (λ (s : ℤ). (v.y +ℤ pos 1) <ℤ s → ⊥) c.from-side.ensures none in
    simp to_z-of_z (next_in_box g.row.D m c.requires.dimension c.requires.from (vector v.x v.y v.z) i (c.cell.view_is ∙ e) k l)
