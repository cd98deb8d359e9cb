-- Of `units_in_limits`: what it ensures; what `common_denominator`, `rows_in_units` and `check_arcs` require.
use Rattle.std.proofs.Common.{arith, lit<, ◌≡◌, ◌⊎◌, ◌∙◌, sym, subst, length, unsigned_abs}
use Rattle.std.proofs.lemmas.{Int.to_z-of_z, Result.err_from_is_err_and}
use Rattle.integers.proofs.vectors.Bounds.{fits_from_bound}
use Rattle.periodic_net.specs.{Limits.most_units, Placement.IsWithinLimits}
use Rattle.quotient_graph.specs.PlacedNets.{placement_of}
use Rattle.fraction.specs.Values.{fraction_value}
use Rattle.elimination.specs.Rows.{value_in}
use Rattle.barycentre.specs.WidePlacements.{IsWideAt}
use Rattle.barycentre.proofs.Existing.{wide_multiple, normal_units, fractions_divided, least_units}
use Rattle.barycentre.proofs.units.units_in_limits.Goals as goal

pub common_denominator-requires : goal.common_denominator-requires
common_denominator-requires g c =
    let k = c.recall.ensures in
    let d : (g.row.D ≡ 2) ⊎ (g.row.D ≡ 3) = subst (λ e. (e ≡ 2) ⊎ (e ≡ 3)) k.parameter k.is_graph.dimension in
    (lit< tt, (d, omega (arith, c.requires.count, k.small.vertices)))

pub returns-in_err-d0 : goal.returns-in_err-d0
returns-in_err-d0 g c =
    let k = c.recall.ensures in let e = c.in_err-d0.ensures in
    let p = err_from_is_err_and c.from_residual.result c.from_residual.ensures.1 in
    record {
      units = rw p.1 tt;
      limits = rw p.1 tt;
      fault = rw (p.1, p.2) (λ positions. wide_multiple c.args.g.now k.is_graph (value_in fraction_value c.args.rows.now) positions c.in_err-d0.field-0.0
          (e.dimension ∙ sym k.parameter) (e.wide.first c.args.g.now (k.parameter, sym c.requires.count)));
    }

pub rows_in_units-requires : goal.rows_in_units-requires
rows_in_units-requires g c =
    let k = c.recall.ensures in let e = c.in_ok-d0.ensures in
    let rd = fits_from_bound c.in_ok-d0.d0 most_units (omega arith) e.common.usable.small in
    let divided = fractions_divided c.args.g.now k.is_graph (value_in fraction_value c.args.rows.now) c.requires.fractions (length c.args.rows.now)
    (unsigned_abs c.in_ok-d0.d0) c.requires.count (e.common.least c.args.g.now (k.parameter, sym c.requires.count)) in
    simp to_z-of_z (lit< tt, (e.positive, (e.common.usable.small, divided)))

pub returns-in_err-at : goal.returns-in_err-at
returns-in_err-at g c =
    let p = err_from_is_err_and c.from_residual-in_err-at.result c.from_residual-in_err-at.ensures.1 in
    record { units = rw p.1 tt; limits = rw p.1 tt; fault = rw (p.1, p.2) tt }

pub check_arcs-requires : goal.check_arcs-requires
check_arcs-requires g c =
    let k = c.recall.ensures in let e = c.in_ok-d0.ensures in let f = c.in_ok-at.ensures in
    let G = c.args.g.now in
    let rd = fits_from_bound c.in_ok-d0.d0 most_units (omega arith) e.common.usable.small in
    let u = least_units G k.is_graph (value_in fraction_value c.args.rows.now) c.requires.fractions c.in_ok-d0.d0 c.in_ok-at.at.items e.positive
    (f.count ∙ c.requires.count) (simp to_z-of_z at f.units) (e.common.least G (k.parameter, sym c.requires.count)) (simp to_z-of_z at f.reach) in
    simp to_z-of_z (rw c.deref.ensures.value (lit< tt, (u.scaled.count, (u.positive, (u.flat, u.reach)))))

pub returns-in_err-check_arcs : goal.returns-in_err-check_arcs
returns-in_err-check_arcs g c =
    let k = c.recall.ensures in let e = c.in_ok-d0.ensures in let f = c.in_ok-at.ensures in
    let G = c.args.g.now in let d0 = c.in_ok-d0.d0 in let at = c.in_ok-at.at.items in
    let rd = fits_from_bound d0 most_units (omega arith) e.common.usable.small in
    let u = least_units G k.is_graph (value_in fraction_value c.args.rows.now) c.requires.fractions d0 at e.positive (f.count ∙ c.requires.count)
    (simp to_z-of_z at f.units) (e.common.least G (k.parameter, sym c.requires.count)) (simp to_z-of_z at f.reach) in
    let w = c.in_err-check_arcs.field-0.0 in
    let told : IsWideAt G (placement_of d0 c.deref.result.now) w.site w.value = simp to_z-of_z at c.in_err-check_arcs.ensures.wide in
    let p = err_from_is_err_and c.from_residual-in_err-check_arcs.result c.from_residual-in_err-check_arcs.ensures.1 in
    record {
      units = rw p.1 tt;
      limits = rw p.1 tt;
      fault = rw (p.1, p.2) (λ positions. record {
        dimension = c.in_err-check_arcs.ensures.dimension;
        placement = placement_of d0 at;
        normal = normal_units G k.is_graph (value_in fraction_value c.args.rows.now) positions d0 at u;
        wide = subst (λ xs. IsWideAt G (placement_of d0 xs) w.site w.value) c.deref.ensures.value told;
      });
    }

pub returns : goal.returns
returns g c =
    let k = c.recall.ensures in let e = c.in_ok-d0.ensures in let f = c.in_ok-at.ensures in
    let G = c.args.g.now in let d0 = c.in_ok-d0.d0 in let at = c.in_ok-at.at.items in
    let rd = fits_from_bound d0 most_units (omega arith) e.common.usable.small in
    let within : IsWithinLimits G (placement_of d0 c.deref.result.now) = simp to_z-of_z at c.in_ok-check_arcs.ensures.within in
    record {
      units = simp to_z-of_z (least_units G k.is_graph (value_in fraction_value c.args.rows.now) c.requires.fractions d0 at e.positive
          (f.count ∙ c.requires.count) (simp to_z-of_z at f.units) (e.common.least G (k.parameter, sym c.requires.count)) (simp to_z-of_z at f.reach));
      limits = simp to_z-of_z (subst (λ xs. IsWithinLimits G (placement_of d0 xs)) c.deref.ensures.value within);
      fault = tt;
    }
