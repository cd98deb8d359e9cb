use Rattle.least_key.{specs.Causes.unconnected_refusal, specs.Truths.IsTrueOf, proofs.Truth.unconnected_true, proofs.Truth.known_error}
use Rattle.least_key.proofs.path.connect_graph.Goals as goal

pub returns-in_err-net-clause-refused : goal.returns-in_err-net-clause-refused
returns-in_err-net-clause-refused g c =
    let fault = c.in_err-net.field-0.0 in
    known_error (IsTrueOf c.args.graph) (unconnected_refusal fault) c.from_residual.result c.from_residual.ensures.1
    (unconnected_true c.args.graph fault c.in_err-net.ensures.refused)
