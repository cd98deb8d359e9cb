-- Of `by_fractions`: what `units_in_limits` requires; what it ensures.
use Rattle.std.proofs.{Common.lit<, Common.IfOk, Common.pos, Common.◌≤ℤ◌, lemmas.Result.IfOk-weaker, lemmas.Result.IfErr-weaker}
use Rattle.fraction.specs.Values.{fraction_value}
use Rattle.elimination.specs.Rows.{value_in}
use Rattle.periodic_net.specs.Placement.{IsNormalPlacement}
use Rattle.quotient_graph.specs.PlacedNets.{placement_of}
use Rattle.barycentre.specs.{PlaceFaults.IsPlaceFault, PlaceFaults.IsUnitsFault, Reached.AreNarrow, Units.AreLeastUnits}
use Rattle.barycentre.proofs.{Recovered.are_positions, Existing.normal_units, Existing.told_of_net}
use Rattle.barycentre.proofs.placing.by_fractions.Goals as goal

pub units_in_limits-requires : goal.units_in_limits-requires
units_in_limits-requires g c =
    let e = c.in-Ok.ensures in
    let positions = are_positions c.args.g.now c.in-Ok.rows.items c.recall.ensures.parameter e.solved e.flat in
    rw c.deref.ensures.value (lit< tt, (lit< tt, (e.count, record { reduced = positions.reduced; flat = positions.flat })))

pub returns-in-Ok : goal.returns-in-Ok
returns-in-Ok g c =
    let G = c.args.g.now in let e = c.in-Ok.ensures in let k = c.recall.ensures in
    let rows = c.in-Ok.rows.items in let p = value_in fraction_value rows in
    let r = c.units_in_limits.result in let f = c.units_in_limits.ensures in
    let positions = are_positions G rows k.parameter e.solved e.flat in
    let units : IfOk r (λ u. AreLeastUnits G p u.d0 u.at.items) = rw c.deref.ensures.value at f.units in
    record {
      positive = IfOk-weaker r (λ u. AreLeastUnits G p u.d0 u.at.items) (λ u. pos 1 ≤ℤ u.d0) (λ u h. h.positive) units;
      normal = IfOk-weaker r (λ u. AreLeastUnits G p u.d0 u.at.items) (λ u. IsNormalPlacement G (placement_of u.d0 u.at.items))
          (λ u h. normal_units G k.is_graph p positions u.d0 u.at.items h) units;
      limits = f.limits;
      reached = IfOk-weaker r (λ u. AreLeastUnits G p u.d0 u.at.items) (λ _. AreNarrow G) (λ _ _. e.fit) units;
      fault = IfErr-weaker r (IsUnitsFault G p) (IsPlaceFault G) (told_of_net G p e.fit positions) (rw c.deref.ensures.value at f.fault);
    }

pub returns-in-Err-NoMemory : goal.returns-in-Err-NoMemory
returns-in-Err-NoMemory g c = record { positive = tt; normal = tt; limits = tt; reached = tt; fault = tt }

pub returns-in-Err-Wide : goal.returns-in-Err-Wide
returns-in-Err-Wide g c = record { positive = tt; normal = tt; limits = tt; reached = tt; fault = c.wide_fault.ensures }
