use Rattle.std.proofs.Common.{◌≡◌, length, []}
use Rattle.coordination.specs.{BoxSearches.AreFirstLists, Marks.IsUnmarked}
use Rattle.coordination.proofs.box_count.lists_in.Given as goal

abbrev pub invariant-loop-before : goal.invariant-loop-before
invariant-loop-before g l = record {
  lists : AreFirstLists l.cell.graph l._before l.lists;
  size : length l.marks ≡ l.net_box.size;
  unmarked : IsUnmarked l.marks;
  empty : l.found.items ≡ [];
}
