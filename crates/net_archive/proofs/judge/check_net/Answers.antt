-- Of `check_net`: the clauses `fault`, `key` and `shells`.
use Rattle.std.proofs.Common.{subst}
use Rattle.periodic_net.specs.Graph.{Graph}
use Rattle.least_key.{specs.AnyNets.net_view, proofs.CallerLemmas.known_error}
use Rattle.coordination.specs.Sequences.{AreSequencesOf}
use Rattle.net_archive.specs.Judging.{IsJudged}
use Rattle.net_archive.proofs.FirstFaults.{has_key, other_judged, shells_judged}
use Rattle.net_archive.proofs.judge.check_net.Goals as goal

pub returns-in_err-check_key-clause-fault : goal.returns-in_err-check_key-clause-fault
returns-in_err-check_key-clause-fault c = λ line.
    let f = c.args.form.now in let fault = c.in_err-check_key.field-0.0 in
    known_error (IsJudged c.args.version line f) fault c.from_residual.result c.from_residual.ensures.1
    (other_judged c.args.version line f (net_view c.args.found.now.net) fault c.requires.keyed c.requires.graph c.in_err-check_key.ensures.fault)

pub returns-in_err-check_version-clause-fault : goal.returns-in_err-check_version-clause-fault
returns-in_err-check_version-clause-fault c = λ line.
    let f = c.args.form.now in let fault = c.in_err-check_version.field-0.0 in
    known_error (IsJudged c.args.version line f) fault c.from_residual-in_err-check_version.result c.from_residual-in_err-check_version.ensures.1
    (shells_judged c.args.version line f c.in_ok-shells.shells fault
    (has_key f (net_view c.args.found.now.net) c.requires.keyed c.requires.graph c.in_ok-check_key.ensures.same)
    (subst (λ (G : Graph). AreSequencesOf G c.in_ok-shells.shells) c.requires.graph c.in_ok-shells.ensures.sequences) c.in_err-check_version.ensures.fault)

pub returns-clause-key : goal.returns-clause-key
returns-clause-key c = has_key c.args.form.now (net_view c.args.found.now.net) c.requires.keyed c.requires.graph c.in_ok-check_key.ensures.same

pub returns-clause-shells : goal.returns-clause-shells
returns-clause-shells c = subst (λ (G : Graph). AreSequencesOf G c.in_ok-shells.shells) c.requires.graph c.in_ok-shells.ensures.sequences
