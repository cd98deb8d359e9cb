use Rattle.std.proofs.Common.{◌+◌, ◌++◌, ◌∷◌, ◌∙◌, [], map, ap, sym, subst}
use Rattle.std.proofs.lemmas.List.{map-append}
use Rattle.quotient_graph.specs.Building.{HaveArcs}
use Rattle.quotient_graph.proofs.Stars.{have_none_more}
use Rattle.quotient_graph.proofs.build.empty_stars.Goals as goal

pub loop-preserved : goal.loop-preserved
loop-preserved g c =
    let n = c.loop.counter in let old = map (λ s. s.items) c.loop.stars.items in
    let pushed = ap (map (λ s. s.items)) c.in_ok-push.ensures.items ∙ map-append (λ s. s.items) c.loop.stars.items (c.new.result ∷ [])
    ∙ ap (λ t. old ++ t ∷ []) c.new.ensures.items in
    subst (λ t. HaveArcs (n + 1) t []) (sym pushed) (have_none_more n old c.loop.invariant)
