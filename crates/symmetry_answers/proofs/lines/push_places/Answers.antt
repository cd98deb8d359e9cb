use Rattle.symmetry_answers.proofs.Placing.{places_more}
use Rattle.symmetry_answers.proofs.lines.push_places.Goals as goal

pub loop-i-preserved : goal.loop-i-preserved
loop-i-preserved g c =
    places_more c.args.placed.now c.loop-i.i c.args.text.now.items c.loop-i.text.items c.push_place.new.text.items c.loop-i.invariant
    c.in_ok-push_place.ensures
