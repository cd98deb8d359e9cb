use Rattle.std.proofs.Common.{take}
use Rattle.answers.specs.{KeyLists.lists_in, Summaries.AreDifferentKeys}
use Rattle.answers.proofs.workloads.count_keys.Given as goal

abbrev pub invariant-loop-outcome : goal.invariant-loop-outcome
invariant-loop-outcome l = AreDifferentKeys (take l.outcome-index l.outcomes) (lists_in l.keys)
