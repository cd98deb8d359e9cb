use Rattle.archive_answers.proofs.Unions.{united_as}
use Rattle.archive_answers.proofs.uniting.unite_entries.Goals as goal

pub returns-in_ok-text-in-Ok : goal.returns-in_ok-text-in-Ok
returns-in_ok-text-in-Ok c = united_as c.args.archive c.in-Ok.whole c.args.entries.items c.in_ok-text-in-Ok.field-0.items c.recall.ensures c.requires.each
    c.in-Ok.ensures.union c.in_ok-text-in-Ok.ensures
