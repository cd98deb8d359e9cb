use Rattle.std.proofs.lemmas.Result.{IfOk-weaker}
use Rattle.block_answers.proofs.bodies.body_of.Goals as goal

pub returns-in_ok-check_net-in-Check-clause-told : goal.returns-in_ok-check_net-in-Check-clause-told
returns-in_ok-check_net-in-Check-clause-told c = rw (c.in-Check.is, c.in-Graph.is, c.judged.ensures.told)
    (c.in_ok-check_net-in-Check.ensures c.args.archive.now.entries)

pub returns-in_ok-place_net-in-Place-clause-told : goal.returns-in_ok-place_net-in-Place-clause-told
returns-in_ok-place_net-in-Place-clause-told c = rw (c.in-Place.is, c.in-Graph.is, c.judged-in-Place.ensures.told)
    (c.in_ok-place_net-in-Place.ensures c.args.archive.now.entries)

pub returns-in_ok-body-in-Key-clause-told : goal.returns-in_ok-body-in-Key-clause-told
returns-in_ok-body-in-Key-clause-told c = rw (c.in-Key.is, c.in-Graph.is, c.judged-in-Key.ensures.told)
    (c.in_ok-body-in-Key.ensures.told c.args.archive.now.entries)

pub returns-in-Components-clause-told : goal.returns-in-Components-clause-told
returns-in-Components-clause-told c = rw (c.in-Components.is, c.in-Graph.is)
    (IfOk-weaker c.components_net.result _ _ (λ judged h. h c.args.archive.now.entries) c.components_net.ensures.told)
