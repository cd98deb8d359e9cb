-- Of `cover_blocks`: the loop over `block`; what it ensures.
use Rattle.std.proofs.Common.{ℕ, ◌+◌, ◌&&◌, true, [], List, sym, subst}
use Rattle.cgd_read.specs.Views.{views}
use Rattle.net_report.specs.declared.outcome.Outcome.{Outcome}
use Rattle.cover_answers.proofs.OneCovering.{AreAnsweredOn, answered_next, answered_none, answered_whole}
use Rattle.cover_answers.proofs.answers.cover_blocks.Goals as goal

pub loop-block-init : goal.loop-block-init
loop-block-init c =
    let cell = c.args.cell.now in let bs = views c.args.found.now in
    subst (λ (text : List ℕ). AreAnsweredOn cell bs 0 1 true c.new-outcomes.result text) (sym c.new-covers.ensures.items)
    (subst (λ (os : List Outcome). AreAnsweredOn cell bs 0 1 true os []) (sym c.new-outcomes.ensures) (answered_none cell bs))

pub loop-block-preserved : goal.loop-block-preserved
loop-block-preserved c =
    let cell = c.args.cell.now in let found = c.args.found.now in let at = c.loop-block in
    let i = at.block-index in
    subst (λ os. AreAnsweredOn cell (views found) (i + 1) (at.number + 1) (at.all_covered && c.in_ok-judged.judged.accepted) os c.cover_block.new.covers.items)
    (sym c.in_ok-push.ensures.ok)
    (answered_next cell found i at.number at.all_covered c.in_ok-judged.judged.accepted at.outcomes at.covers.items c.cover_block.new.covers.items
    c.block-item.result c.in_ok-judged.judged.told c.loop-block-test.true c.block-item.is
    at.invariant c.in_ok-judged.ensures.answered c.in_ok-judged.ensures.printable)

pub returns : goal.returns
returns c =
    let at = c.loop-block in
    answered_whole c.args.cell.now c.args.found.now at.block-index at.number at.all_covered at.outcomes at.covers.items c.answer_of.result
    c.loop-block-test.false at.invariant
    c.answer_of.ensures.covered c.answer_of.ensures.refused
