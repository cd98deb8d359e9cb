use Rattle.std.proofs.Common.{◌≡◌, ◌+◌, ◌<◌, ◌≤◌, ℕ, length, get_or, sym, ap, subst, ◌∙◌, arith, Vec, Global}
use Rattle.primitive_cell.proofs.MadePrimitive.{AreFirstPlacesTo, place_passed, place_found}
use Rattle.primitive_cell.proofs.places.first_places.Goals.{then-number-len+in_ok-push, else-number-len}
use Rattle.primitive_cell.proofs.places.first_places.Goals as goal

pub loop-i-preserved : goal.loop-i-preserved
loop-i-preserved c =
    let ns = c.args.numbers.now in let i = c.loop-i.i in let us = c.loop-i.firsts.items in
    let len : c.len.result ≡ length us = c.len.ensures ∙ c.loop-i.firsts.ok.0 in let f = c.loop-i.invariant in
    elim c.if-number-len.branch [
      | then-number-len+in_ok-push w ↦
          let above = w.if-number-len.true in
          let new : length us < get_or ns i 0 = omega (arith, len, above) in
          let is = ap (λ (v : Vec ℕ Global). v.items) w.firsts-is ∙ (w.in_ok-push.ensures).items in
          subst (AreFirstPlacesTo ns (i + 1)) (sym is) (place_found ns us i c.loop-i-test.true new c.requires.in_order f)
      | else-number-len w ↦
          let low = w.if-number-len.false in let old : get_or ns i 0 ≤ length us = omega (arith, len, low) in
          subst (λ (v : Vec ℕ Global). AreFirstPlacesTo ns (i + 1) v.items) (sym w.firsts-is) (place_passed ns us i old f)
    ]
