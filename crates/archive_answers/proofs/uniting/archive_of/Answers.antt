use Rattle.archive_answers.proofs.Unions.{archive_of_bytes, fault_of_bytes}
use Rattle.archive_answers.proofs.uniting.archive_of.Goals as goal

pub returns-clause-archive : goal.returns-clause-archive
returns-clause-archive c = archive_of_bytes c.args.file.now c.in_ok-bytes.bytes c.archive_in.result c.in_ok-bytes.ensures.items c.archive_in.ensures

pub returns-clause-fault : goal.returns-clause-fault
returns-clause-fault c = fault_of_bytes c.args.file.now c.in_ok-bytes.bytes c.archive_in.result c.in_ok-bytes.ensures.items c.archive_in.ensures
