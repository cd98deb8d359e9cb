use Rattle.connected_dim.proofs.Splits.{disconnected_refutes, degenerate_refutes}
use Rattle.connected_dim.proofs.connectedness.connect.Goals as goal

pub returns-in-Ok-Parted-clause-not_connected : goal.returns-in-Ok-Parted-clause-not_connected
returns-in-Ok-Parted-clause-not_connected g c =
    disconnected_refutes c.args.g c.in-Ok-Parted.split c.verdict.ensures.is_graph (rw c.in-Ok-Parted.field-0-is at c.in-Ok-Parted.ensures.verdict)

pub returns-in-Ok-Flat-clause-not_connected : goal.returns-in-Ok-Flat-clause-not_connected
returns-in-Ok-Flat-clause-not_connected g c =
    degenerate_refutes c.args.g c.in-Ok-Flat.split c.verdict.ensures.is_graph (rw c.in-Ok-Flat.field-0-is at c.in-Ok-Flat.ensures.verdict)
