use Rattle.net_report.proofs.Growing.{positions_more}
use Rattle.net_report.proofs.placements.push_positions.Goals as goal

pub loop-i-preserved : goal.loop-i-preserved
loop-i-preserved g c =
    positions_more c.args.names.now c.args.placed.now c.loop-i.i c.args.text.now.items c.loop-i.text.items c.push_position.new.text.items c.loop-i.invariant
    c.in_ok-push_position.ensures
