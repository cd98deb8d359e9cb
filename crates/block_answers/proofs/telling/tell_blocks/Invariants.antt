use Rattle.cgd_read.specs.Views.{views}
use Rattle.block_answers.proofs.Listing.{AreToldOn}
use Rattle.block_answers.proofs.telling.tell_blocks.Given as goal

abbrev pub invariant-loop-block : goal.invariant-loop-block
invariant-loop-block l = AreToldOn l.archive.entries l.command (views l.found) l.block-index l.number l.all_accepted l.text.items
