-- Of `with_list`: invariants.
use Rattle.std.proofs.Common.{◌≡◌, [], ◌∷◌, pos, sym, to_z, ◌∙◌}
use Rattle.std.{proofs.lemmas.Int.to_z-of_z, specs.Prelude.cond, specs.Prelude.◌==◌, specs.Int.w128}
use Rattle.integers.specs.Vectors.{vector}
use Rattle.vecdim.proofs.Boxes.{boxed_fits, boxed_first, boxed_second, boxed_third, first_small, second_small}
use Rattle.vecdim.proofs.{Starting.flat_last, Starting.full_last, staircase.with_list.Goals.then-this-eq2, staircase.with_list.Goals.else-this-eq2}
use Rattle.vecdim.proofs.staircase.with_list.Goals as goal

pub invariant_of-result : goal.invariant_of-result
invariant_of-result g c =
    let k = c.requires.kept in let f = boxed_fits k.m_to (boxed_first k) in
    let fx = f.x in let fy = f.y in let fz = f.z in simp to_z-of_z (first_small k, λ e. (c.requires.flat e).first_z)

pub invariant_of-result-2 : goal.invariant_of-result-2
invariant_of-result-2 g c =
    let k = c.requires.kept in let s = boxed_fits k.m_to (boxed_second k) in
    let fy = s.x in let fz = s.y in simp to_z-of_z (second_small k, λ e. (c.requires.flat e).second_z)

pub invariant_of-result-4 : goal.invariant_of-result-4
invariant_of-result-4 g c =
    let k = c.requires.kept in let f = boxed_fits k.m_to (boxed_first k) in
    let fa = f.x in let fb = f.y in let fc = f.z in
    let s = boxed_fits k.m_to (boxed_second k) in let fe = s.x in let ff = s.y in
    let t = boxed_fits k.m_to (boxed_third k) in
    let fi = t.x in let fm = c.ranges.bound in let i = c.args.rows.third_z in
    let last : to_z w128 c.if-this-eq2.last-bits ≡ cond (g.row.D == 2) (pos 0) i =
    elim c.if-this-eq2.branch [
      | then-this-eq2 w ↦ w.last-is ∙ sym (flat_last g.row.D i w.if-this-eq2.true)
      | else-this-eq2 w ↦ let e = w.last-is in (simp to_z-of_z at e) ∙ sym (full_last g.row.D i w.if-this-eq2.false)
    ] in
    simp to_z-of_z (
      c.requires.two,
      c.requires.three,
      c.requires.flat,
      k,
      λ j. vector c.args.rows.first_x c.args.rows.first_y c.args.rows.first_z ∷ vector
          (pos 0) c.args.rows.second_y c.args.rows.second_z ∷ vector (pos 0) (pos 0) (last j) ∷ [],
    )
