use Rattle.net_archive.{specs.Faults.IsFaultOf, proofs.OneFault.told}
use Rattle.net_archive.proofs.reading.read_text.Goals as goal
use Rattle.least_key.proofs.CallerLemmas.{known_error}

pub returns-in_err-entries-clause-fault : goal.returns-in_err-entries-clause-fault
returns-in_err-entries-clause-fault c =
    let text = c.args.text.now in let fault = c.in_err-entries.field-0.0 in
    known_error (IsFaultOf text) fault c.from_residual-in_err-entries.result c.from_residual-in_err-entries.ensures.1
    (told c.in_ok-version.version text fault (c.in_err-entries.ensures text c.in_ok-version.ensures))

pub returns-clause-read : goal.returns-clause-read
returns-clause-read c = (c.in_ok-entries.ensures c.args.text.now c.in_ok-version.ensures).1

pub returns-clause-entries : goal.returns-clause-entries
returns-clause-entries c = (c.in_ok-entries.ensures c.args.text.now c.in_ok-version.ensures).0
