use Rattle.std.proofs.Common.{length, subst, sym}
use Rattle.coordination.specs.Marks.{AreMarked}
use Rattle.coordination.proofs.BoxSearch.{left_all, left_fewer, left_none, left_within}
use Rattle.coordination.proofs.marks.unmark.Goals as goal

pub loop-spot-init : goal.loop-spot-init
loop-spot-init c = left_all c.args.marks.now c.deref-spot-items.result.now
    (subst (AreMarked c.args.marks.now) (sym c.deref-spot-items.ensures.value) c.requires)

pub bounds-marks-spot : goal.bounds-marks-spot
bounds-marks-spot c = left_within c.loop-spot.marks c.deref-spot-items.result.now c.loop-spot.spot-index
    (length c.args.marks.now) _ c.loop-spot.invariant c.loop-spot-test.true

pub loop-spot-preserved : goal.loop-spot-preserved
loop-spot-preserved c = left_fewer c.loop-spot.marks c.deref-spot-items.result.now c.loop-spot.spot-index
    (length c.args.marks.now) _ c.loop-spot.invariant c.loop-spot-test.true

pub returns-clause-marks : goal.returns-clause-marks
returns-clause-marks c = left_none c.loop-spot.marks c.deref-spot-items.result.now c.loop-spot.spot-index
    (length c.args.marks.now) c.loop-spot.invariant c.loop-spot-test.false
