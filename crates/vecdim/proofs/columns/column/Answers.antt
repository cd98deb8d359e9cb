-- Of `column`: the loop over `below`; what `rest_of` requires; the clauses `lower` and `same`.
use Rattle.std.proofs.Common.{rules, ◌≡◌, pos, ap, of_z, subst}
use Rattle.std.{proofs.lemmas.Int.to_z-of_z, specs.Int.w128}
use Rattle.integers.specs.Vectors.{vector}
use Rattle.vecdim.specs.Steps.{Exchange, IsBoxed}
use Rattle.vecdim.proofs.{Lattice.kept_start, Lattice.kept_step, Boxes.not_zero, Boxes.rests_fall}
use Rattle.vecdim.proofs.columns.column.Goals as goal

pub loop-below-init : goal.loop-below-init
loop-below-init c = search (rules, kept_start)

pub rest_of-rest-requires : goal.rest_of-rest-requires
rest_of-rest-requires c =
    let r = c.requires in let m = c.ranges.m in let k = c.loop-below.invariant in
    record {
      m = simp to_z-of_z r.m;
      m_to = simp to_z-of_z r.m_to;
      above = k.upper;
      below = k.lower;
      pivot = not_zero _ k.lower.x_from (λ e. c.loop-below-test.true (ap (of_z w128) e));
    }

pub loop-below-smaller : goal.loop-below-smaller
loop-below-smaller c =
    let e = c.rest_of-rest.ensures in
    rests_fall c.rest_of-rest.result.x c.loop-below.below.x e.rest.x_from e.less

pub loop-below-preserved : goal.loop-below-preserved
loop-below-preserved c = kept_step c.loop-below.invariant c.rest_of-rest.ensures.less c.rest_of-rest.ensures.rest c.rest_of-rest.ensures.same

pub returns-clause-lower : goal.returns-clause-lower
returns-clause-lower c =
    let w = c.loop-below.below in let m = c.ranges.m in let k = c.loop-below.invariant.lower in
    let e : w.x ≡ pos 0 = search rules in
    subst (λ t. IsBoxed c.args.m (vector t w.y w.z)) e (simp to_z-of_z at k)

pub returns-clause-same : goal.returns-clause-same
returns-clause-same c =
    let u = c.args.upper in let v = c.args.lower in let r = c.loop-below.above in
    let w = c.loop-below.below in let m = c.ranges.m in let k = c.loop-below.invariant.same in
    let e : w.x ≡ pos 0 = search rules in
    subst (λ t. Exchange c.args.m (vector u.x u.y u.z) (vector v.x v.y v.z) (vector r.x r.y r.z) (vector t w.y w.z)) e (simp to_z-of_z at k)
