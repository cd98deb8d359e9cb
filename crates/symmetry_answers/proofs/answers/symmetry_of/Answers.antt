use Rattle.std.proofs.Common.{ℕ, true, List, sym, subst}
use Rattle.cgd_read.specs.Views.{views}
use Rattle.net_report.specs.declared.status.Status.{Status}
use Rattle.symmetry_answers.specs.Due.{IsSymmetryAs}
use Rattle.symmetry_answers.proofs.Telling.{AreToldOn, ends_so, told_next, told_none}
use Rattle.symmetry_answers.proofs.answers.symmetry_of.Goals as goal

pub loop-block-init : goal.loop-block-init
loop-block-init c =
    let bs = views c.args.found.now in
    subst (λ (text : List ℕ). AreToldOn bs 0 1 true text) (sym c.new-text.ensures.items) (told_none bs)

pub loop-block-preserved : goal.loop-block-preserved
loop-block-preserved c =
    told_next c.args.found.now c.loop-block.block-index c.loop-block.number c.loop-block.all_accepted c.in_ok-all_accepted.field-0
    c.loop-block.text.items c.tell_block.new.text.items
    c.block-item.result c.loop-block-test.true c.block-item.is c.loop-block.invariant c.in_ok-all_accepted.ensures

pub returns : goal.returns
returns c =
    let text = c.loop-block.text.items in
    subst (λ (s : Status). IsSymmetryAs (views c.args.found.now) s text) (sym c.ending_of.ensures)
    (ends_so c.args.found.now c.loop-block.block-index c.loop-block.number c.loop-block.all_accepted text c.loop-block-test.false c.loop-block.invariant)
