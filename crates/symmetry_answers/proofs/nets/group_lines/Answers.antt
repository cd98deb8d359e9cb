use Rattle.std.proofs.Common.{◌≡◌, ◌++◌, ◌∙◌, ℕ, List, ap}
use Rattle.symmetry_answers.specs.{GroupTexts.group_text, Texts.cell_text}
use Rattle.symmetry_answers.proofs.Told.{group_told}
use Rattle.symmetry_answers.proofs.nets.group_lines.Goals as goal

pub returns : goal.returns
returns g c =
    let n = c.args.net.now in let p = c.args.placed.now in let group = c.in_ok-group.group in
    let cell = c.push_cell.new.text.items in let placing = c.push_placing.new.text.items in
    let first : cell ≡ cell_text n = c.in_ok-push_cell.ensures ∙ ap (λ (t : List ℕ). t ++ cell_text n) c.new-text.ensures.items in
    let dim : c.dimension.result ≡ p.graph.dimension = cc in
    let last = c.from_vec.ensures ∙ c.in_ok-push_group.ensures ∙ ap (λ (d : ℕ). placing ++ group_text d group) dim in
    group_told n p c.args.classes.now group cell placing c.from_vec.result c.requires c.in_ok-group.ensures first c.in_ok-push_placing.ensures last
