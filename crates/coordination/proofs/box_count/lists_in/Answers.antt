use Rattle.std.proofs.Common.{◌+◌, rules, subst}
use Rattle.integers.specs.Vectors.{zero_vector}
use Rattle.periodic_net.specs.Graph.{vertex}
use Rattle.coordination.{specs.Sequences.AreShellsOf, proofs.BoxCounting.lists_more}
use Rattle.coordination.proofs.box_count.lists_in.Goals as goal

pub loop-before-preserved : goal.loop-before-preserved
loop-before-preserved g c =
    let P = c.args.cell.now.graph in let lists = c.loop-before.lists in
    let sizes = c.in_ok-sizes.sizes.items in
    record {
      lists = lists_more P c.loop-before._before lists c.push.new.self sizes c.loop-before.invariant.lists
          (λ i. subst (λ n. AreShellsOf P (vertex (n + 1) zero_vector) sizes) c.loop-before.invariant.lists.count c.in_ok-sizes.ensures.sizes)
          c.in_ok-push.ensures.ok;
      size = search rules;
      unmarked = c.in_ok-sizes.ensures.unmarked;
      empty = c.in_ok-sizes.ensures.empty;
    }
