use Rattle.std.proofs.Common.{◌≡◌, ◌∙◌, ℕ, List, length, sym, ap, subst, arith}
use Rattle.periodic_net.specs.Graph.{Arc}
use Rattle.primitive_cell.specs.DividedNets.{DividedNet}
use Rattle.coordination.{specs.Far.AreFarAfter, specs.Far.AreFarther, proofs.Boxes.far_after_more}
use Rattle.coordination.proofs.far.raise_ten_times.Goals as goal

pub loop-k-preserved : goal.loop-k-preserved
loop-k-preserved g c =
    let P = c.args.cell.now.graph in
    let edges = c.deref.ensures.value ∙ ap (λ (n : DividedNet). n.graph.edges) c.cell.view_is in
    let once = subst (λ (es : List Arc). AreFarther c.args.axis (length es) es c.loop-k.far c.loop-k.next c.raise_all.new.next) edges c.raise_all.ensures in
    let farther = subst (λ (ns : List ℕ). AreFarther c.args.axis (length P.edges) P.edges c.loop-k.far ns c.raise_all.new.next) c.loop-k.invariant.next once in
    let copied : c.copy_from_slice.new.self ≡ c.raise_all.new.next = c.copy_from_slice.ensures.after in
    record {
      far = rw copied (far_after_more P c.requires.graph c.args.axis c.loop-k._k c.loop-k.far c.raise_all.new.next c.loop-k.invariant.far farther);
      next = sym copied;
    }

pub returns : goal.returns
returns g c =
    let ten : c.loop-k._k ≡ 10 = omega arith in
    subst (λ n. AreFarAfter c.args.cell.now.graph c.args.axis n c.loop-k.far) ten c.loop-k.invariant.far
