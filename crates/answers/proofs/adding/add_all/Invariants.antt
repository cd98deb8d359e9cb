use Rattle.std.{proofs.Common.length, specs.Prelude.option_copied}
use Rattle.cgd_read.specs.Views.{views}
use Rattle.answers.proofs.Additions.{AreAddedTo}
use Rattle.answers.proofs.adding.add_all.Given as goal

abbrev pub invariant-loop-block : goal.invariant-loop-block
invariant-loop-block l = AreAddedTo (option_copied l.fn.given) (views l.found) l.fn.archive (length l.yielded) (option_copied l.given) l.number l.archive
