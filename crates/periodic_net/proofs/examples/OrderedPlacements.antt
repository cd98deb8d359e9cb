-- A coordinate of a placement by fractions is barycentric in the ordered group of the whole numbers.
use Rattle.std.proofs.Common.{◌+ℤ◌, ◌*ℤ◌, ◌∙◌, ℤ, pos, ap, sym}
use Rattle.integers.specs.{Coordinates.IsCoordinate}
use Rattle.integers.specs.Vectors.{Vector, times}
use Rattle.integers.proofs.lists.Sums.{total_same}
use Rattle.periodic_net.specs.Graph.{arcs_from, Graph}
use Rattle.periodic_net.specs.OrderedGroups.{difference}
use Rattle.periodic_net.specs.OrderedPlacements.{IsBarycentricIn}
use Rattle.periodic_net.specs.Placement.{arc_vector, IsBarycentric, Placement, position}
use Rattle.periodic_net.proofs.{isomorphisms.Periods.end_of, nets.Walks.from_is_arc, placements.OnePlacement.total_zero}
use Rattle.periodic_net.proofs.placements.Positions.{end_vector, position_moved}
use Rattle.periodic_net.proofs.ordered.WholeNumbers.{sum_is_total, whole_numbers}

-- a coordinate of a placement is barycentric
pub placed_in : (G : Graph) (p : Placement) → IsBarycentric G p → (c : Vector → ℤ) → IsCoordinate c
    → IsBarycentricIn whole_numbers G (λ t. pos p.denominator *ℤ c t) (λ w. c (position p w))
placed_in G p b c l = record {
  moves = λ w t i d.
      ap c (position_moved p w t) ∙ l.plus_is (position p w) (times (pos p.denominator) t)
      ∙ ap (λ (z : ℤ). c (position p w) +ℤ z) (l.times_is (pos p.denominator) t);
  balanced = λ w i.
      sum_is_total (λ a. difference whole_numbers (c (position p (end_of w a))) (c (position p w))) (arcs_from G w.over)
      ∙ total_same (λ a. difference whole_numbers (c (position p (end_of w a))) (c (position p w))) (λ a. c (arc_vector p a)) (arcs_from G w.over)
      (λ a k. sym (l.minus_is (position p (end_of w a)) (position p w)) ∙ ap c (end_vector p w a (from_is_arc G w.over a k).1))
      ∙ total_zero G p b c l w.over i.over;
}
