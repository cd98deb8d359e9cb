-- Sizes of orbits times orders of stabilizers.
use Rattle.std.proofs.Common.{◌*◌, ◌∙◌, sym}
use Rattle.integers.proofs.lists.Matched.{matched_length}
use Rattle.net_symmetries.proofs.Counting.{orbits_are_counted}
use Rattle.net_operations.specs.Groups.{IsMotionOf}
use Rattle.symmetry_answers.specs.Laws.{SizesTimesOrders}

pub sizes_times_orders : SizesTimesOrders
sizes_times_orders n g h o i =
    let v = h.vertices.each o i in let c = v.size in
    (λ k. sym c.count k * sym v.order k) ∙ orbits_are_counted n.graph h.operations h.all o.least v.is_vertex c.list c.once c.each
    ∙ matched_length (IsMotionOf n) h.operations g.motions h.motions
