-- Of `row_in_units`: what `in_units` requires; what it ensures.
use Rattle.std.proofs.Common.{ℕ, zero, suc, ◌<◌, ◌^◌, FitsSigned, arith}
use Rattle.std.{proofs.lemmas.Int.to_z-of_z, specs.Int.w128}
use Rattle.integers.specs.{Vectors.Vector, Vectors.vector, Vectors.IsWithin, Staircase.part}
use Rattle.exact.specs.Ratio.{Ratio}
use Rattle.fraction.specs.Values.{fraction_value}
use Rattle.elimination.specs.Rows.{row_part}
use Rattle.barycentre.specs.Units.{IsUnits, IsInUnits}
use Rattle.barycentre.proofs.units.row_in_units.Goals as goal

-- three parts in units
all_in_units : (parts : ℕ → Ratio) (m : ℕ) (v : Vector) → IsUnits (parts 0) m v.x → IsUnits (parts 1) m v.y → IsUnits (parts 2) m v.z → IsInUnits parts m v
all_in_units parts m v x y z = record { each = each }
  where
    each : (c : ℕ) → c < 3 → IsUnits (parts c) m (part c v)
    each zero l = x
    each (suc zero) l = y
    each (suc (suc zero)) l = z
    each (suc (suc (suc c))) l = absurd (omega (arith, l))

pub in_units-x-requires : goal.in_units-x-requires
in_units-x-requires g c = record { usable = c.requires.usable; divides = c.requires.divides.each 0 (omega arith) }

pub in_units-y-requires : goal.in_units-y-requires
in_units-y-requires g c = record { usable = c.requires.usable; divides = c.requires.divides.each 1 (omega arith) }

pub in_units-z-requires : goal.in_units-z-requires
in_units-z-requires g c = record { usable = c.requires.usable; divides = c.requires.divides.each 2 (omega arith) }

pub returns : goal.returns
returns g c =
    let x = c.in_units-x in let y = c.in_units-y in let z = c.in_units-z in
    let fx : FitsSigned w128 x.result = record { sfits = x.type_inv } in
    let fy : FitsSigned w128 y.result = record { sfits = y.type_inv } in
    let fz : FitsSigned w128 z.result = record { sfits = z.type_inv } in
    let v = vector x.result y.result z.result in
    let reach : IsWithin (2 ^ 102) v = (x.ensures.reach, y.ensures.reach, z.ensures.reach) in
    record {
      units = simp to_z-of_z (all_in_units (row_part fraction_value c.args.row.now) c.args.d0 v x.ensures.units y.ensures.units z.ensures.units);
      reach = simp to_z-of_z reach;
    }
