use Rattle.std.proofs.Common.{map, []}
use Rattle.quotient_graph.specs.Building.{HaveArcs}
use Rattle.quotient_graph.proofs.build.empty_stars.Given as goal

abbrev pub invariant-loop : goal.invariant-loop
invariant-loop g l = HaveArcs l.counter (map (λ s. s.items) l.stars.items) []
