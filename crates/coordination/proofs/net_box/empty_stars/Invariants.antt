use Rattle.std.proofs.Common.{◌≡◌, map, replicate, []}
use Rattle.coordination.proofs.net_box.empty_stars.Given as goal

abbrev pub invariant-loop : goal.invariant-loop
invariant-loop l = map (λ star. star.items) l.stars.items ≡ replicate l.counter []
