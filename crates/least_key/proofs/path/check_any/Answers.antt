use Rattle.std.{proofs.Common.sym, proofs.Common.subst, specs.Prelude.OnOk}
use Rattle.periodic_net.specs.Graph.{IsConnected}
use Rattle.quotient_graph.specs.{AnyGraphs.graph_view, declared.any_graph.AnyGraph.AnyGraph}
use Rattle.least_key.proofs.path.check_any.Goals as goal

pub returns-in-Flat-clause-connected : goal.returns-in-Flat-clause-connected
returns-in-Flat-clause-connected c = subst (λ (g : AnyGraph). OnOk c.check_graph.result (IsConnected (graph_view g)))
    (sym c.in-Flat.is) c.check_graph.ensures.connected

pub returns-in-Space-clause-connected : goal.returns-in-Space-clause-connected
returns-in-Space-clause-connected c = subst (λ (g : AnyGraph). OnOk c.check_graph-in-Space.result (IsConnected (graph_view g)))
    (sym c.in-Space.is) c.check_graph-in-Space.ensures.connected
