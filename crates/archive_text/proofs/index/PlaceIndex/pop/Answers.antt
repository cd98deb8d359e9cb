use Rattle.archive_text.proofs.KeyNumbers.{places_left}
use Rattle.archive_text.proofs.index.PlaceIndex.pop.Goals as goal

pub invariant_of-self-2 : goal.invariant_of-self-2
invariant_of-self-2 c =
    places_left c.pop.new.self.items c.self.inside.values.items c.self.inside.places c.drop_place.new.places c.in_ok-value.value
    c.in_ok-value.ensures.items c.self.invariant c.drop_place.ensures.dropped c.drop_place.ensures.others
