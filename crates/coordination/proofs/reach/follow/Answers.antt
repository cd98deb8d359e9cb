use Rattle.std.proofs.{Common.◌≡◌, Common.◌+◌, Common.◌∙◌, Common.ap, Common.drop, Common.get_or, Common.sym, lemmas.List.at_drop_more}
use Rattle.coordination.specs.{Found.all_found, Found.all_new, Found.found_with, Found.new_with, Points.along, Points.ends_of}
use Rattle.coordination.proofs.reach.follow.Goals as goal

pub loop-arc-preserved : goal.loop-arc-preserved
loop-arc-preserved g c =
    let p = c.args.from in let star = c.args.star.now in let i = c.loop-arc.arc-index in let arc = c.arc-item.result in
    let within = c.loop-arc-test.true in let keys = c.loop-arc.found.keys in let next = c.loop-arc.next.items in
    let point = along p (get_or star i arc) in let rest = ends_of p (drop (i + 1) star) in
    let same : c.along.result ≡ point = c.along.ensures ∙ ap (along p) c.arc-item.is in
    let found = c.in_ok-reach.ensures.found ∙ ap (found_with keys) same in
    let new = c.in_ok-reach.ensures.next ∙ ap (new_with keys next) same in
    record {
      found = ap (λ ks. all_found ks rest) found ∙ sym (at_drop_more (λ xs. all_found keys (ends_of p xs)) star i arc within) ∙ c.loop-arc.invariant.found;
      next = ap (λ ks. all_new ks c.reach.new.next.items rest) found ∙ ap (λ ns. all_new (found_with keys point) ns rest) new
          ∙ sym (at_drop_more (λ xs. all_new keys next (ends_of p xs)) star i arc within) ∙ c.loop-arc.invariant.next;
    }
