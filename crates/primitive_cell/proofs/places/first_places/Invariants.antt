use Rattle.primitive_cell.proofs.MadePrimitive.{AreFirstPlacesTo}
use Rattle.primitive_cell.proofs.places.first_places.Given as goal

abbrev pub invariant-loop-i : goal.invariant-loop-i
invariant-loop-i l = AreFirstPlacesTo l.numbers l.i l.firsts.items
