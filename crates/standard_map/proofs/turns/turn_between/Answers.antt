use Rattle.std.proofs.Common.{◌+◌, ◌*◌, ◌-◌, sym, subst, ap, ◌∙◌, arith}
use Rattle.integers.{specs.Vectors.IsWithin, proofs.vectors.Bounds.wider}
use Rattle.periodic_net.specs.Limits.{most_closed, most_shift, most_units, most_vertices}
use Rattle.standard_map.specs.{CellBounds.most_turn, Ends.End}
use Rattle.standard_map.proofs.turns.turn_between.Goals as goal

pub returns-clause-within_shift : goal.returns-clause-within_shift
returns-clause-within_shift g c =
    let m = most_shift * most_vertices in let n = most_shift * (most_vertices - 1) in
    let to = subst (IsWithin m) (sym (c.to_vector-shift.ensures.value ∙ ap (λ (e : End). e.shift) c.to.view_is)) c.requires.to.shift in
    let from = subst (IsWithin n) (sym (c.to_vector.ensures.value ∙ ap (λ (e : End). e.shift) c.from.view_is)) c.requires.from.shift in
    wider (m + n) most_closed (omega arith) c.minus.result (c.minus.ensures.within m n to from)

pub returns-clause-within_image : goal.returns-clause-within_image
returns-clause-within_image g c =
    let m = most_units * most_vertices in let n = most_units * (most_vertices - 1) in
    let to = subst (IsWithin m) (sym (ap (λ (e : End). e.at) c.to.view_is)) c.requires.to.at in
    let from = subst (IsWithin n) (sym (ap (λ (e : End). e.at) c.from.view_is)) c.requires.from.at in
    wider (m + n) most_turn (omega arith) c.minus-2.result (c.minus-2.ensures.within m n to from)
