use Rattle.map_answers.proofs.Verified.{is_due}
use Rattle.map_answers.proofs.verifying.verify_answer.Goals as goal

pub returns-in-Ok : goal.returns-in-Ok
returns-in-Ok c = is_due c.args.file.now c.ending_of.result c.in-Ok.checked c.in-Ok.ensures.checked c.ending_of.ensures
