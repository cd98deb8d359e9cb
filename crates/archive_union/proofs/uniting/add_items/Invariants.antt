use Rattle.std.proofs.Common.{◌≡◌, ◌+◌, ◌++◌, length}
use Rattle.std.specs.Vec.Iter.{into_iter_items, into_iter_len}
use Rattle.archive_text.specs.Entries.{entry_views}
use Rattle.net_archive.specs.Archives.{archive_with}
use Rattle.archive_union.specs.Unions.{united}
use Rattle.archive_union.proofs.uniting.add_items.Given as goal

abbrev pub invariant-loop-item : goal.invariant-loop-item
invariant-loop-item l = record {
  all : l.yielded ++ into_iter_items l.item-iterator ≡ l.fn.items.items;
  left : into_iter_len l.item-iterator ≡ length (into_iter_items l.item-iterator);
  number : l.number ≡ length l.yielded + 1;
  archive : l.archive ≡ archive_with l.fn.archive (united l.fn.archive.entries (entry_views l.yielded));
}
