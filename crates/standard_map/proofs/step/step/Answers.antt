use Rattle.std.proofs.Common.{sym, subst}
use Rattle.periodic_net.specs.{Graph.IsArc, Placement.arc_vector}
use Rattle.standard_map.{specs.Sides.IsPart, proofs.Searching.none_at_all, proofs.Searching.none_more}
use Rattle.standard_map.proofs.step.step.Goals as goal

pub loop-arc-preserved : goal.loop-arc-preserved
loop-arc-preserved g c = record {
  none = none_more c.args.side.now c.arcs-arc-items.result.now c.args.part.now c.loop-arc.arc-index c.arc-item.result c.loop-arc-test.true c.arc-item.is
      (λ p. c.is_same.ensures.no c.if-is_same.false (sym (c.part_of.ensures.only c.args.part.now p)))
      c.loop-arc.invariant.none;
}

pub returns-then-is_same-clause-part : goal.returns-then-is_same-clause-part
returns-then-is_same-clause-part g c =
    subst (IsPart c.args.side.now (arc_vector c.args.side.now.net.placement c.arc-item.result)) (c.is_same.ensures.yes c.if-is_same.true) c.part_of.ensures.part

pub unreachable-requires : goal.unreachable-requires
unreachable-requires g c =
    let b = c.requires.some in
    none_at_all c.args.side.now c.arcs-arc-items.result.now c.args.part.now c.loop-arc.arc-index c.loop-arc-test.false c.loop-arc.invariant.none b.0
    (c.arcs-arc-items.ensures.every b.0 (subst (λ G. IsArc G b.0) (sym c.graph.ensures) b.1) b.2) b.3
