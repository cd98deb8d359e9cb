use Rattle.net_report.proofs.Growing.{report_more}
use Rattle.net_report.proofs.texts.push_outcomes.Goals as goal

pub loop-outcome-preserved : goal.loop-outcome-preserved
loop-outcome-preserved c =
    report_more c.args.outcomes.now c.loop-outcome.outcome-index c.outcome-item.result c.args.text.now.items c.loop-outcome.text.items
    c.push_outcome.new.text.items c.loop-outcome-test.true c.outcome-item.is
    c.loop-outcome.invariant c.in_ok-push_outcome.ensures
