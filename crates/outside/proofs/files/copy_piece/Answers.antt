use Rattle.std.proofs.{Common.arith, lemmas.Grind.common_steps}
use Rattle.outside.proofs.Pieces.{copied}
use Rattle.outside.proofs.files.copy_piece.Goals as goal

pub returns-clause-bytes : goal.returns-clause-bytes
returns-clause-bytes c =
    copied c.args.at c.min-count.result c.args.bytes.now c.copy_from_slice.new.self _
    (grind (arith, common_steps, c.copy_from_slice.ensures.len, c.min-count.ensures))
    (grind (arith, common_steps, c.copy_from_slice.ensures.after, c.min-count.ensures, c.min.ensures))
