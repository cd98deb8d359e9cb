use Rattle.std.proofs.{Common.◌≤◌, Common.map, Common.sym, Common.subst, Common.arith, lemmas.List.length-map}
use Rattle.quotient_graph.proofs.Stars.{sorted_none, sorted_more, sorted_all}
use Rattle.quotient_graph.proofs.build.sort_stars.Goals as goal

pub loop-star-init : goal.loop-star-init
loop-star-init g c = sorted_none (map (λ s. s.items) c.args.stars.now)

pub loop-star-preserved : goal.loop-star-preserved
loop-star-preserved g c =
    sorted_more (λ s. s.items) (map (λ s. s.items) c.args.stars.now) c.loop-star.stars c.loop-star.star-index c.star-item.result c.sort_star.new.star
    (omega (arith, c.loop-star-test.true, c.loop-star.auto.stars)) c.in_ok-sort_star.ensures c.loop-star.invariant

pub returns : goal.returns
returns g c =
    let all = subst (λ k. k ≤ c.loop-star.star-index) (sym (length-map c.args.stars.now (λ s. s.items))) c.loop-star-test.false in
    sorted_all c.loop-star.star-index (map (λ s. s.items) c.args.stars.now) (map (λ s. s.items) c.loop-star.stars) all c.loop-star.invariant
