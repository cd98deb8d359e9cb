use Rattle.standard_map.specs.Standing.{NoneStandsTo}
use Rattle.standard_map.proofs.places.vertex_standing.Given as goal

abbrev pub invariant-loop-done : goal.invariant-loop-done
invariant-loop-done g l = record { none : NoneStandsTo l.placed l.place l.done }
