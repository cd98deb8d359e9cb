use Rattle.archive_text.specs.declared.version.Version.TheVariants.{Two}
use Rattle.net_archive.proofs.NewEntry.{next_entry}
use Rattle.net_archive.proofs.migrating.rows_in_two.Goals as goal

pub loop-entry-preserved : goal.loop-entry-preserved
loop-entry-preserved c =
    next_entry Two c.args.entries.now c.loop-entry.entry-index c.entry-item.result c.loop-entry.text.items c.push_entry.new.text.items c.loop-entry-test.true
    c.entry-item.is
    c.loop-entry.invariant c.in_ok-push_entry.ensures
