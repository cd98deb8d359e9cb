use Rattle.cgd_read.specs.Views.{views}
use Rattle.symmetry_answers.proofs.Telling.{AreToldOn}
use Rattle.symmetry_answers.proofs.answers.symmetry_of.Given as goal

abbrev pub invariant-loop-block : goal.invariant-loop-block
invariant-loop-block l = AreToldOn (views l.found) l.block-index l.number l.all_accepted l.text.items
