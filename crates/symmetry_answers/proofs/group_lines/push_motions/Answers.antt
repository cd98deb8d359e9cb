use Rattle.std.proofs.Common.{◌+◌, ◌∷◌, ap, drop, sym}
use Rattle.net_report.proofs.Growing.{line_more}
use Rattle.symmetry_answers.specs.GroupTexts.{motion_text, motions_text}
use Rattle.symmetry_answers.proofs.group_lines.push_motions.Goals as goal

pub loop-motion-preserved : goal.loop-motion-preserved
loop-motion-preserved c =
    let xs = c.args.motions.now in let i = c.loop-motion.motion-index in let x = c.motion-item.result in
    let rest = drop (i + 1) xs in
    line_more (motions_text c.args.dim) (motion_text c.args.dim x) (motions_text c.args.dim rest) xs i x c.loop-motion.text.items
    c.push_motion.new.text.items _ c.loop-motion-test.true c.in_ok-push_motion.ensures
    (ap (λ e. motions_text c.args.dim (e ∷ rest)) (sym c.motion-item.is)) c.loop-motion.invariant
