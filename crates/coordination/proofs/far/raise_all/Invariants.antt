use Rattle.coordination.specs.Far.{AreFarther}
use Rattle.coordination.proofs.far.raise_all.Given as goal

abbrev pub invariant-loop-edge : goal.invariant-loop-edge
invariant-loop-edge g l = AreFarther l.axis l.edge-index l.edges l.far l.initial.next l.next
