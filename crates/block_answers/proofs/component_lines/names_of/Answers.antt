use Rattle.std.proofs.Common.{◌∷◌, [], ◌++◌, ap, sym, ◌∙◌}
use Rattle.block_answers.proofs.Printing.{names_at}
use Rattle.block_answers.proofs.component_lines.names_of.Goals as goal

pub loop-u-preserved : goal.loop-u-preserved
loop-u-preserved c =
    c.in_ok-push.ensures.ok ∙ ap (λ ns. ns ++ c.at.result.now.now ∷ []) c.loop-u.invariant
    ∙ sym (names_at c.args.names.now c.args.vertices.now c.loop-u.u-index c.at.result.now.now c.loop-u-test.true c.at.ensures)
