use Rattle.net_archive.proofs.IsoGroups.{next_rows}
use Rattle.net_archive.proofs.regrouping.rows_of_all.Goals as goal

pub loop-entry-preserved : goal.loop-entry-preserved
loop-entry-preserved c =
    next_rows c.args.version c.args.entries.now c.loop-entry.entry-index c.entry-item.result c.loop-entry.rows.items c.push_entry.new.text.items
    c.loop-entry-test.true c.entry-item.is
    c.loop-entry.invariant c.in_ok-push_entry.ensures
