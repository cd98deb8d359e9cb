use Rattle.std.proofs.Common.{◌∙◌, subst}
use Rattle.periodic_net.specs.Graph.{Graph}
use Rattle.net_archive.{specs.Judging.IsRefusedAt, proofs.FirstFaults.refused_judged}
use Rattle.net_archive.proofs.judge.check_form.Goals as goal

pub check_net-shells-requires-clause-graph : goal.check_net-shells-requires-clause-graph
check_net-shells-requires-clause-graph c = c.in-Ok.ensures.net ∙ c.requires.graph

pub returns-in-Err-clause-fault : goal.returns-in-Err-clause-fault
returns-in-Err-clause-fault c =
    refused_judged c.args.version c.args.line c.args.form.now c.in-Err.fault
    (subst (λ (G : Graph). IsRefusedAt c.args.line G c.in-Err.fault) c.requires.graph c.in-Err.ensures.fault)

pub returns-in-Ok-clause-fault : goal.returns-in-Ok-clause-fault
returns-in-Ok-clause-fault c = c.check_net-shells.ensures.fault c.args.line
