use Rattle.std.proofs.Common.{◌≡◌, length}
use Rattle.periodic_net.specs.Graph.{Graph, IsQuotientVertex}
use Rattle.coordination.{specs.Boxes.IsBoxOf, proofs.BoxCounting.IsCountedIn}
use Rattle.coordination.proofs.box_count.shells_in.Given as goal

abbrev pub invariant-loop-k : goal.invariant-loop-k
invariant-loop-k l = record {
  counted : (P : Graph) → IsBoxOf P l.net_box → IsQuotientVertex P l.over → IsCountedIn P l.net_box l.over l.sizes.items l.room l.begin l.marks l.found.items;
  count : length l.sizes.items ≡ l._k;
}
