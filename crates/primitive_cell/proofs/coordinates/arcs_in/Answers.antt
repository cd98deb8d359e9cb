use Rattle.std.proofs.Common.{arith, sym, subst}
use Rattle.std.specs.Prelude.{All}
use Rattle.std.proofs.lemmas.List.{map-append, take_more}
use Rattle.std.proofs.lemmas.List.Elements.{All-push}
use Rattle.primitive_cell.specs.Lattices.{IsProperly}
use Rattle.primitive_cell.proofs.coordinates.arcs_in.Goals as goal

pub loop-arc-preserved : goal.loop-arc-preserved
loop-arc-preserved g c =
    let i = c.loop-arc.arc-index in let a = c.arc-item.result in
    let step = take_more c.args.arcs.now i a c.loop-arc-test.true in
    let pushed = c.in_ok-push.ensures.items in
    record {
      same = grind (arith, step, pushed, map-append, c.loop-arc.invariant.same, c.arc_in.ensures.same, c.arc-item.is);
      proper = subst (All (IsProperly g.row.D)) (sym pushed) (All-push (IsProperly g.row.D) _ _ c.loop-arc.invariant.proper
          (record { dimension = c.arc_in.ensures.dimension; within = c.arc_in.ensures.within }));
    }
