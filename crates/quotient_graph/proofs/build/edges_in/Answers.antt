use Rattle.std.proofs.Common.{◌≡◌, ◌+◌, ◌++◌, ◌∷◌, ◌∙◌, [], ap, sym, filter, map, take}
use Rattle.std.proofs.lemmas.List.{flat_map_more, map_more}
use Rattle.quotient_graph.specs.Building.{is_spelled, spelled_in}
use Rattle.quotient_graph.proofs.build.edges_in.Goals as goal

pub loop-star-preserved : goal.loop-star-preserved
loop-star-preserved g c =
    let xs = c.args.stars.now in let i = c.loop-star.star-index in let s = c.star-item.result in
    let before = map (λ s. s.items) (take i xs) in
    let pushed : c.push_spelled.new.edges.items ≡ spelled_in before ++ filter is_spelled s.items =
    c.in_ok-push_spelled.ensures ∙ (λ j. c.loop-star.invariant j ++ filter is_spelled (c.as_slice.ensures j)) in
    let more : map (λ s. s.items) (take (i + 1) xs) ≡ before ++ s.items ∷ [] =
    map_more (λ s. s.items) xs i s c.loop-star-test.true ∙ (λ j. before ++ (sym c.star-item.is j).items ∷ []) in
    pushed ∙ flat_map_more (filter is_spelled) [] before s.items ∙ ap spelled_in (sym more)
