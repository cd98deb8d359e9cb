use Rattle.std.proofs.{Common.◌^◌, Common.◌∙◌, Common.sym, Common.subst, Common.arith, lemmas.Int.to_z-of_z}
use Rattle.integers.specs.Vectors.{HasDimension, IsWithin}
use Rattle.vecdim.proofs.{Adding.with_of_added, Adding.with_whole, Boxes.small_fits, Starting.flat_kept}
use Rattle.vecdim.proofs.staircase.Staircase.insert.Goals as goal

pub with_list-requires : goal.with_list-requires
with_list-requires g c =
    let i = c.self.invariant in let n = c.insert_rows-rows.ensures in
    (omega arith, (i.0, (i.1, ((λ d. flat_kept (i.2 d) n), n.kept))))

pub returns-then-is_whole : goal.returns-then-is_whole
returns-then-is_whole g c =
    let e = c.to_triple-t.ensures in let d = subst (HasDimension g.row.D) e.value e.dimension in
    with_whole g.row.D c.args.self.now c.args.v.now d (c.is_whole.ensures.whole.0 c.if-is_whole.true)

pub returns : goal.returns
returns g c =
    let e = c.to_triple-t.ensures in let t = c.t.inside in
    let s = subst (IsWithin (2 ^ 61)) (sym c.t.view_is) e.within in
    let d = subst (HasDimension g.row.D) (sym c.t.view_is) e.dimension in let fx = small_fits t.x s.0 in
    let fy = small_fits t.y s.1 in let fz = small_fits t.z s.2 in let a = c.insert_rows-rows.ensures.added in
    rw (sym c.self.view_is, c.self-2.view_is, c.with_list.ensures, sym (c.t.view_is ∙ e.value))
    (with_of_added g.row.D _ _ _ d (simp to_z-of_z at a))
