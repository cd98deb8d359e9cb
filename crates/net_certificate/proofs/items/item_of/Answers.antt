use Rattle.std.proofs.Common.{arith}
use Rattle.least_key.specs.AnyNets.{net_view}
use Rattle.net_certificate.proofs.FoundMaps.{answer_few, answer_writable}
use Rattle.net_certificate.proofs.items.item_of.Goals as goal

pub returns-in_ok-copy_graph-in-Found-clause-writable : goal.returns-in_ok-copy_graph-in-Found-clause-writable
returns-in_ok-copy_graph-in-Found-clause-writable c =
    let few = answer_few (net_view c.args.first.now) (net_view c.args.net.now) c.args.room c.in_ok-map_between.field-0 c.in-Found.map c.in-Found.is
    c.in_ok-map_between.ensures.answer in
    let room = c.requires in
    answer_writable (net_view c.args.first.now).placed.graph (net_view c.args.net.now).placed.graph c.in_ok-map_between.field-0 c.in-Found.map c.in-Found.is
    c.in_ok-map_between.ensures.verified (omega (arith, few, room))

pub returns-in_ok-copy_graph-in-Found-clause-few : goal.returns-in_ok-copy_graph-in-Found-clause-few
returns-in_ok-copy_graph-in-Found-clause-few c =
    answer_few (net_view c.args.first.now) (net_view c.args.net.now) c.args.room c.in_ok-map_between.field-0 c.in-Found.map c.in-Found.is
    c.in_ok-map_between.ensures.answer
