use Rattle.std.proofs.Common.{length}
use Rattle.std.specs.Prelude.{codes}
use Rattle.net_report.proofs.Growing.{two_parts}
use Rattle.symmetry_answers.specs.GroupTexts.{count_text, motions_text, operations_text}
use Rattle.symmetry_answers.proofs.group_lines.push_operations.Goals as goal

pub returns : goal.returns
unfolding operations_text
returns c =
    let ms = c.args.motions.now in
    two_parts c.push_motions.result c.args.text.now.items c.push_count.new.text.items c.push_motions.new.text.items
    (count_text (codes "operations ") (length ms)) (motions_text c.args.dim ms) c.in_ok-push_count.ensures c.push_motions.ensures
