use Rattle.cgd_read.specs.Views.{views}
use Rattle.cover_answers.proofs.OneCovering.{AreAnsweredOn}
use Rattle.cover_answers.proofs.answers.cover_blocks.Given as goal

abbrev pub invariant-loop-block : goal.invariant-loop-block
invariant-loop-block l = AreAnsweredOn l.cell (views l.found) l.block-index l.number l.all_covered l.outcomes l.covers.items
