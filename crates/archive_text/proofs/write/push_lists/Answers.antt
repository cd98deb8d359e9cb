use Rattle.archive_text.proofs.BadLines.{class_written}
use Rattle.archive_text.proofs.write.push_lists.Goals as goal

pub loop-done-preserved : goal.loop-done-preserved
loop-done-preserved c = class_written c.args.text.now.items c.loop-done.text.items c.push_shells.new.text.items c.args.lists.now c.loop-done.done
    c.at.result.now _ c.at.ensures c.in_ok-push_shells.ensures c.loop-done.invariant
