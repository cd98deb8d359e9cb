use Rattle.std.proofs.Common.{◌≡◌, ◌∙◌, ◌++◌, ◌∷◌, [], FitsSigned, to_z, of_z, get_or, ap, refl, sym}
use Rattle.std.{proofs.lemmas.Int.to_z-of_z, proofs.lemmas.List.map_more, specs.Int.w64}
use Rattle.integers.specs.Vectors.{vector}
use Rattle.connected_dim.specs.Flat.{flat_colour}
use Rattle.connected_dim.proofs.flat.flat_colours.Goals as goal

pub loop-walk-preserved : goal.loop-walk-preserved
loop-walk-preserved g c =
    let v = c.args.c.now in let colour = flat_colour (vector v.x v.y v.z) in let found = c.args.found.now in
    let i = c.loop-walk.walk-index in let walk = c.walk-item.result in let one = c.flat_colour.result in
    let f : FitsSigned w64 one = record { sfits = c.flat_colour.type_inv } in
    let stored : to_z w64 (of_z w64 one) ≡ one = simp to_z-of_z refl in
    let next = colour (get_or found i walk) in
    let same : one ≡ next = c.flat_colour.ensures ∙ ap colour c.walk-item.is in
    c.in_ok-push.ensures.items ∙ ap (λ z. c.loop-walk.h.items ++ z ∷ []) (stored ∙ same) ∙ ap (λ hs. hs ++ next ∷ []) c.loop-walk.invariant
    ∙ sym (map_more colour found i walk c.loop-walk-test.true)
