use Rattle.std.proofs.Common.{◌≤◌, length, arith}
use Rattle.std.proofs.lemmas.List.{ext_get_or}
use Rattle.integers.specs.Vectors.{zero_vector}
use Rattle.periodic_net.specs.Graph.{arc}
use Rattle.primitive_net.proofs.whole.are_same_edges.Goals as goal

pub returns-clause-yes : goal.returns-clause-yes
returns-clause-yes g c _ =
    let es = c.args.edges.now in let none = arc 0 0 zero_vector in
    let long : length es ≤ c.loop-i.i = omega arith in
    ext_get_or none es c.args.arcs.now c.if-edges-arcs.false (λ k l. c.loop-i.invariant k none (omega (arith, l, long)))
