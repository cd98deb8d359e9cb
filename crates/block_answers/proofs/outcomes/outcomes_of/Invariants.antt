use Rattle.std.proofs.Common.{[]}
use Rattle.cgd_read.specs.Views.{views}
use Rattle.net_report.specs.{KindsTold.AreKindsOfAll, declared.command.Command.TheVariants.Key}
use Rattle.block_answers.proofs.Listing.{AreOutcomesOn}
use Rattle.block_answers.proofs.outcomes.outcomes_of.Given as goal

abbrev pub invariant-loop-block : goal.invariant-loop-block
invariant-loop-block l = record {
  outcomes : AreOutcomesOn [] Key (views l.found) l.block-index l.number l.keyed.outcomes;
  kinds : AreKindsOfAll l.keyed.outcomes l.keyed.kinds.items;
}
