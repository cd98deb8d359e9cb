use Rattle.std.proofs.Common.{◌≡◌, ◌∙◌, ap, ◌++◌, ◌∷◌, [], length, arith}
use Rattle.archive_text.proofs.KeyNumbers.{places_kept}
use Rattle.archive_text.proofs.index.PlaceIndex.push.Goals as goal

pub invariant_of-self-2 : goal.invariant_of-self-2
invariant_of-self-2 c =
    let xs = c.self.inside.values.items in
    let pushed = c.in-Ok-push.ensures.items ∙ ap (λ zs. zs ++ c.args.value ∷ []) c.in_ok-reserve.ensures.items in
    let last : c.in-Ok.place ≡ length xs = omega (arith, c.in-Ok.ensures, c.len.ensures) in
    places_kept xs c.push.new.self.items c.self.inside.places c.put_place.new.places c.args.value c.in-Ok.place
    pushed last c.self.invariant c.in_ok-put_place.ensures.put c.in_ok-put_place.ensures.others
