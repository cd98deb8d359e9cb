use Rattle.std.proofs.Common.{ℕ, true, List, sym, subst}
use Rattle.cgd_read.specs.Views.{views}
use Rattle.block_answers.proofs.Listing.{AreToldOn, told_next, told_none, told_whole}
use Rattle.block_answers.proofs.telling.tell_blocks.Goals as goal

pub loop-block-init : goal.loop-block-init
loop-block-init c =
    let entries = c.args.archive.now.entries in let bs = views c.args.found.now in
    subst (λ (text : List ℕ). AreToldOn entries c.args.command bs 0 1 true text) (sym c.new-text.ensures.items) (told_none entries c.args.command bs)

pub loop-block-preserved : goal.loop-block-preserved
loop-block-preserved c =
    told_next c.args.archive.now.entries c.args.command c.args.found.now c.loop-block.block-index c.loop-block.number c.loop-block.all_accepted
    c.in_ok-all_accepted.field-0 c.loop-block.text.items c.tell_block.new.text.items
    c.block-item.result c.loop-block-test.true c.block-item.is c.loop-block.invariant c.in_ok-all_accepted.ensures

pub returns : goal.returns
returns c =
    told_whole c.args.archive.now.entries c.args.command c.args.found.now c.loop-block.block-index c.loop-block.number c.loop-block.all_accepted
    c.loop-block.text.items c.loop-block-test.false c.loop-block.invariant
    c.recall.ensures.each c.requires.graphs
