use Rattle.std.proofs.Common.{◌≡◌, ◌≤◌, ◌++◌, drop, length, map}
use Rattle.least_key.specs.AnyNets.{net_view}
use Rattle.map_answers.specs.Steps.{nets_told}
use Rattle.map_answers.proofs.answers.nets_told.Given as goal

abbrev pub invariant-loop-outcome : goal.invariant-loop-outcome
invariant-loop-outcome l = record {
  nets : map (λ n. net_view n.now) l.nets.items ++ nets_told (drop l.outcome-index l.outcomes) ≡ nets_told l.outcomes;
  few : length l.nets.items ≤ l.outcome-index;
}
