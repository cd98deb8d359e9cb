use Rattle.std.proofs.Common.{take}
use Rattle.least_key.specs.Answers.{AreAnswers}
use Rattle.least_key.proofs.keys.answers_to.Given as goal

abbrev pub invariant-loop-graph : goal.invariant-loop-graph
invariant-loop-graph l = AreAnswers (take l.graph-index l.graphs) l.answers.items
