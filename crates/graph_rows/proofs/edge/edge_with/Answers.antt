-- Of `edge_with`: the clauses `form` and `every`.
use Rattle.std.proofs.Common.{◌≡◌, ◌≤◌, ℤ, pos, FitsSigned, unsigned_abs, sym, ◌∙◌, subst}
use Rattle.std.proofs.lemmas.{Bool.true≢false, Int.to_z-of_z}
use mir.Syntax.{w32, w128}
use mir.Val.{of_z, to_z}
use Rattle.graph_rows.proofs.Edges.{same_part, same_spelling}
use Rattle.periodic_net.specs.Limits.{most_shift}
use Rattle.graph_rows.proofs.edge.edge_with.Goals as goal

pub returns-then-is_normal-clause-form : goal.returns-then-is_normal-clause-form
returns-then-is_normal-clause-form c = λ flat.
    let small : (x : ℤ) → unsigned_abs x ≤ most_shift → unsigned_abs (to_z w32 (of_z w32 x)) ≤ most_shift =
    λ x h. subst (λ y. unsigned_abs y ≤ most_shift) (sym (same_part x h)) h in
    record {
      is_edge = record {
        from = c.in_ok-u.ensures.within;
        to = c.in_ok-v.ensures.within;
        shift = λ two. same_part c.in_ok-z.z c.in_ok-z.ensures.within ∙ sym c.in_ok-z.ensures.found ∙ to_z-of_z w128 c.args.z c.ranges.z ∙ flat two;
        spelling = c.is_normal.ensures.0 c.if-is_normal.true;
      };
      small = (small c.in_ok-x.x c.in_ok-x.ensures.within, small c.in_ok-y.y c.in_ok-y.ensures.within, small c.in_ok-z.z c.in_ok-z.ensures.within);
    }

pub returns-else-is_normal-clause-every : goal.returns-else-is_normal-clause-every
returns-else-is_normal-clause-every c = λ e is u v x y z.
    let was : (n m : ℤ) → FitsSigned w128 n → n ≡ m → m ≡ to_z w128 (of_z w128 n) = λ n m fits same. sym same ∙ sym (to_z-of_z w128 n fits) in
    let part : (k : ℤ) → unsigned_abs k ≤ most_shift → k ≡ to_z w32 (of_z w32 k) = λ k h. sym (same_part k h) in
    let forward = same_spelling e.u e.v c.in_ok-u.u c.in_ok-v.v e.x e.y e.z (to_z w32 (of_z w32 c.in_ok-x.x)) (to_z w32 (of_z w32 c.in_ok-y.y))
    (to_z w32 (of_z w32 c.in_ok-z.z))
    (was c.args.u (pos e.u) c.ranges.u u ∙ c.in_ok-u.ensures.found) (was c.args.v (pos e.v) c.ranges.v v ∙ c.in_ok-v.ensures.found)
    (was c.args.x e.x c.ranges.x x ∙ c.in_ok-x.ensures.found ∙ part c.in_ok-x.x c.in_ok-x.ensures.within)
    (was c.args.y e.y c.ranges.y y ∙ c.in_ok-y.ensures.found ∙ part c.in_ok-y.y c.in_ok-y.ensures.within)
    (was c.args.z e.z c.ranges.z z ∙ c.in_ok-z.ensures.found ∙ part c.in_ok-z.z c.in_ok-z.ensures.within) is.is_edge.spelling in
    absurd (true≢false (sym (c.is_normal.ensures.1 forward) ∙ c.if-is_normal.false))
