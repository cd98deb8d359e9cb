use Rattle.std.proofs.{Common.arith, lemmas.Grind.common_steps}
use Rattle.outside.proofs.Found.{found_bytes}
use Rattle.outside.proofs.files.file_bytes.Goals as goal

pub returns-in_err-file : goal.returns-in_err-file
returns-in_err-file c = rw (found_bytes c.args.files.now c.args.name.now) (grind (arith, common_steps))

pub returns : goal.returns
returns c = rw (found_bytes c.args.files.now c.args.name.now) (grind (arith, common_steps))
