-- Sums of the images of the cells have room, and are bounded.
use Rattle.std.proofs.Common.{ℕ, ◌+◌, ◌*◌, ◌≤◌, arith}
use Rattle.integers.specs.{Bases.Base, Bases.base_sum, Vectors.IsWithin, Vectors.plus, Vectors.times, Vectors.Vector}
use Rattle.integers.proofs.vectors.Bounds.{bounded_plus, bounded_times, wider}
use Rattle.standard_map.specs.CellBounds.{HaveRoom, most_multiple}

module _ (m n : ℕ) (b : Base) (k : Vector) (steps : IsWithin m k) (first : IsWithin n b.first) (second : IsWithin n b.second) (third : IsWithin n b.third) where
  -- each multiple is bounded
  x_within : IsWithin (m * n) (times k.x b.first)
  x_within = bounded_times k.x b.first m n steps.0 first

  y_within : IsWithin (m * n) (times k.y b.second)
  y_within = bounded_times k.y b.second m n steps.1 second

  z_within : IsWithin (m * n) (times k.z b.third)
  z_within = bounded_times k.z b.third m n steps.2 third

  -- so they have room
  pub room_within : m * n ≤ most_multiple → HaveRoom b k
  room_within few = record {
    first = wider (m * n) most_multiple few (times k.x b.first) x_within;
    second = wider (m * n) most_multiple few (times k.y b.second) y_within;
    third = wider (m * n) most_multiple few (times k.z b.third) z_within;
  }

  -- and the sum is bounded
  pub sum_within : IsWithin (3 * (m * n)) (base_sum b k)
  sum_within =
      let p = m * n in let yz = plus (times k.y b.second) (times k.z b.third) in
      wider (p + (p + p)) (3 * p) (omega arith) (base_sum b k)
      (bounded_plus (times k.x b.first) yz p (p + p) x_within (bounded_plus (times k.y b.second) (times k.z b.third) p p y_within z_within))
