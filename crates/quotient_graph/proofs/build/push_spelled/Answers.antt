use Rattle.std.proofs.Common.{◌≡◌, ◌++◌, ◌∷◌, ◌∙◌, [], append_assoc, ap, sym, filter, take}
use Rattle.std.proofs.lemmas.Bool.{true≢false}
use Rattle.quotient_graph.specs.Building.{is_spelled}
use Rattle.quotient_graph.proofs.Spelled.{chosen_more, passed_over}
use Rattle.quotient_graph.proofs.build.push_spelled.Goals.{then-is_normal+in_ok-push, else-is_normal}
use Rattle.quotient_graph.proofs.build.push_spelled.Goals as goal

pub loop-arc-preserved : goal.loop-arc-preserved
loop-arc-preserved g c =
    let s = c.args.star.now in let i = c.loop-arc.arc-index in let a = c.arc-item.result in let room = c.args.edges.now.items in
    let chosen = filter is_spelled (take i s) in
    elim c.if-is_normal.branch [
      | then-is_normal+in_ok-push w ↦
          let more = chosen_more s i a c.loop-arc-test.true c.arc-item.is (c.is_normal.ensures.0 w.if-is_normal.true) in
          let pushed : c.if-is_normal.edges.items ≡ (room ++ chosen) ++ a ∷ [] =
          ap (λ v. v.items) w.edges-is ∙ w.in_ok-push.ensures.items ∙ (λ j. c.loop-arc.invariant j ++ a ∷ []) in
          pushed ∙ append_assoc room chosen (a ∷ []) ∙ (λ j. room ++ sym more j)
      | else-is_normal w ↦
          let same = passed_over s i a c.loop-arc-test.true c.arc-item.is (λ n. true≢false (sym (c.is_normal.ensures.1 n) ∙ w.if-is_normal.false)) in
          let kept : c.if-is_normal.edges.items ≡ room ++ chosen = ap (λ v. v.items) w.edges-is ∙ c.loop-arc.invariant in
          kept ∙ (λ j. room ++ sym same j)
    ]
