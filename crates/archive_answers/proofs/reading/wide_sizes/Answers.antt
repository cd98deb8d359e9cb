use Rattle.std.proofs.Common.{◌∙◌, ◌++◌, ◌∷◌, [], ℤ, pos, List, get_or, ap, sym, arith}
use Rattle.std.{proofs.lemmas.Int.to_z_pos, proofs.lemmas.List.map_more, specs.Int.w128}
use Rattle.archive_answers.proofs.reading.wide_sizes.Goals as goal

pub loop-size-preserved : goal.loop-size-preserved
loop-size-preserved c =
    let sizes = c.args.sizes.now in let i = c.loop-size.size-index in let n = get_or sizes i 0 in
    let small = (c.type_inv.sizes i).fits in let wide = to_z_pos w128 n (omega (arith, small)) in
    c.in_ok-push.ensures.items ∙ ap (λ (z : ℤ). c.loop-size.numbers.items ++ z ∷ []) wide
    ∙ ap (λ (l : List ℤ). l ++ pos n ∷ []) c.loop-size.invariant ∙ sym (map_more pos sizes i 0 c.loop-size-test.true)
