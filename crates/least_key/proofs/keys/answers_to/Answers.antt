use Rattle.std.proofs.Common.{◌+◌, sym, subst, take}
use Rattle.least_key.{specs.Answers.AreAnswers, proofs.Truth.answers_more}
use Rattle.least_key.proofs.keys.answers_to.Goals as goal

pub loop-graph-preserved : goal.loop-graph-preserved
loop-graph-preserved c =
    subst (AreAnswers (take (c.loop-graph.graph-index + 1) c.args.graphs.now)) (sym c.in_ok-push.ensures.items)
    (answers_more c.args.graphs.now c.loop-graph.answers.items c.loop-graph.graph-index c.graph-item.result c.in_ok-answer_to.field-0 c.loop-graph-test.true
    c.graph-item.is
    c.loop-graph.invariant c.in_ok-answer_to.ensures)
