use Rattle.std.proofs.{Common.◌+◌, Common.◌∙◌, Common.ap, Common.drop, Common.get_or, Common.pos, Common.sym, lemmas.List.at_drop_more}
use Rattle.coordination.specs.Marks.{all_marks, all_spots, marks_with, spots_with, spot_along, spots_along}
use Rattle.coordination.specs.declared.spot.Step.{Step}
use Rattle.coordination.proofs.marks.follow.Goals as goal

pub loop-step-preserved : goal.loop-step-preserved
loop-step-preserved c =
    let s = c.args.from in let star = c.args.star.now in let i = c.loop-step.step-index in let within = c.loop-step-test.true in
    let old = c.loop-step.marks in let found = c.loop-step.found.items in let none : Step = record { to = 0; by = pos 0 } in
    let spot = spot_along s (get_or star i none) in let rest = spots_along s (drop (i + 1) star) in
    let marked = c.in_ok-mark.ensures.marks ∙ ap (marks_with old) c.along.ensures in
    let new = c.in_ok-mark.ensures.found ∙ ap (spots_with old found) c.along.ensures in
    record {
      marks = ap (λ ms. all_marks ms rest) marked ∙ sym (at_drop_more (λ ts. all_marks old (spots_along s ts)) star i none within)
          ∙ c.loop-step.invariant.marks;
      found = ap (λ ms. all_spots ms c.mark.new.found.items rest) marked ∙ ap (λ ss. all_spots (marks_with old spot) ss rest) new
          ∙ sym (at_drop_more (λ ts. all_spots old found (spots_along s ts)) star i none within) ∙ c.loop-step.invariant.found;
    }
