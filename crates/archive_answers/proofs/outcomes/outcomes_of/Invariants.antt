use Rattle.std.proofs.Common.{◌≡◌, ◌+◌, ◌++◌, length, All}
use Rattle.std.specs.Vec.Iter.{into_iter_items, into_iter_len}
use Rattle.net_report.specs.{KindsTold.AreKindsOfAll, Reports.IsPrintable}
use Rattle.archive_answers.proofs.ItemOutcomes.{AreOutcomesOfRead}
use Rattle.archive_answers.proofs.outcomes.outcomes_of.Given as goal

-- the items so far
abbrev pub invariant-loop-item : goal.invariant-loop-item
invariant-loop-item l = record {
  all : l.yielded ++ into_iter_items l.item-iterator ≡ l.fn.items.items;
  left : into_iter_len l.item-iterator ≡ length (into_iter_items l.item-iterator);
  number : l.number ≡ length l.yielded + 1;
  told : AreOutcomesOfRead 1 l.yielded l.keyed.outcomes;
  kinds : AreKindsOfAll l.keyed.outcomes l.keyed.kinds.items;
  printable : All IsPrintable l.keyed.outcomes;
}
