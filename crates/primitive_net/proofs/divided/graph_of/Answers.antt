-- Of `graph_of`: what `graph_in` requires; the clause `narrow`.
use Rattle.std.proofs.Common.{ap, lit≤, sym, subst}
use Rattle.std.specs.Prelude.{IfOk}
use Rattle.primitive_cell.specs.DividedNets.{DividedNet}
use Rattle.periodic_net.specs.{Limits.IsSmall}
use Rattle.least_key.specs.KeyedNets.{KeyedNet}
use Rattle.primitive_net.specs.Faults.{AreNarrow, IsNearlySmall}
use Rattle.primitive_net.proofs.Primitive.{nearly_small}
use Rattle.primitive_net.proofs.divided.graph_of.Goals as goal

pub graph_in-requires : goal.graph_in-requires
graph_in-requires g c =
    let n = c.args.net.now in let small = subst IsSmall (ap (λ (m : KeyedNet). m.placed.graph) c.net.view_is) c.recall.ensures.small in
    let cell = subst (λ (e : DividedNet). IsNearlySmall e.graph) (sym (ap (λ (m : KeyedNet). m.cell) c.net.view_is)) (nearly_small n c.requires small) in
    (lit≤ tt, (lit≤ tt, cell))

pub returns-clause-narrow : goal.returns-clause-narrow
returns-clause-narrow g c =
    subst (λ (e : DividedNet). IfOk c.graph_in.result (λ _. AreNarrow e.graph.edges)) (ap (λ (m : KeyedNet). m.cell) c.net.view_is)
    c.graph_in.ensures.narrow
