use Rattle.std.proofs.Common.{◌++◌, ℕ, List, ap, sym, ◌∙◌, append_assoc}
use Rattle.workload.specs.Workload.{edge_line, edge_at, lines_before}
use Rattle.workload.proofs.SmallText.{one_more_piece}
use Rattle.workload.proofs.lines.push_places.Goals as goal

pub loop-r-preserved : goal.loop-r-preserved
loop-r-preserved c =
    let d = c.args.dimension in
    let f : ℕ → List ℕ = λ r. edge_line d (edge_at c.args.m c.args.k c.args.e.now r) in
    let before = lines_before d c.args.m c.args.k c.args.e.now c.loop-r.r in
    c.in_ok-push_edge.ensures ∙ ap (λ e. c.loop-r.text.items ++ edge_line d e) c.edge_at.ensures ∙ ap (λ xs. xs ++ f c.loop-r.r) c.loop-r.invariant
    ∙ append_assoc c.args.text.now.items before (f c.loop-r.r) ∙ ap (λ xs. c.args.text.now.items ++ xs) (sym (one_more_piece f c.loop-r.r))
