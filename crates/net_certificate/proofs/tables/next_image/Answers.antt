-- Of `next_image`: the clauses `place` and `none`.
use Rattle.std.proofs.Common.{◌≡◌, Ok, ap, [], ◌∷◌, ◌++◌, sym, ◌∙◌, subst, arith}
use Rattle.std.{proofs.lemmas.Option.none-some, proofs.lemmas.Bool.true≢false, specs.Prelude.codes}
use Rattle.periodic_net.specs.Graph.{Vertex}
use Rattle.line_text.{specs.Lines.IsAt, specs.Numbers.row_text, proofs.CallerLemmas.none_from, proofs.CallerLemmas.some_from}
use Rattle.map_check.specs.Layouts.{vertex_at}
use Rattle.net_certificate.{specs.Rows.image_numbers, specs.Rows.image_row, specs.Steps.NoImage, proofs.RowForms.image_few, proofs.RowForms.image_wide}
use Rattle.net_certificate.proofs.tables.next_image.Goals as goal

pub returns-then-branch-clause-place : goal.returns-then-branch-clause-place
unfolding image_row
returns-then-branch-clause-place c = λ text rows at.
    let d = c.args.dim in let e = c.args.size.now.dim in let w = vertex_at d c.args.m c.args.i in
    some_from c.image_from.result (λ (x : Vertex). c.deref.result.now ≡ image_numbers d e c.vertex_at.result x)
    (λ (x : Vertex). IsAt text (rows ++ image_row d e w x ∷ []) c.next_row.new.self)
    (λ x is. subst (λ ns. IsAt text (rows ++ row_text (codes "image") ns ∷ []) c.next_row.new.self)
    (sym c.deref.ensures.value ∙ is ∙ ap (λ v. image_numbers d e v x) c.vertex_at.ensures)
    (c.in_ok-next_row.ensures.place text rows at (ap (λ b. Ok b) c.if-branch.true))) c.image_from.ensures.found

pub returns-then-branch-clause-none : goal.returns-then-branch-clause-none
unfolding image_row
returns-then-branch-clause-none c =
    let d = c.args.dim in let s = c.args.size.now in let w = vertex_at d c.args.m c.args.i in
    none_from c.image_from.result (NoImage d w s c.args.lines.now.rest) (λ none x rest is e.
    none-some x (sym none ∙ c.image_from.ensures.every x is (c.deref.ensures.value
    ∙ (c.in_ok-next_row.ensures.every (image_numbers d s.dim w x) rest (image_wide d s.dim c.args.m c.args.i s.vertices x c.requires.few
    (omega (arith, c.requires.size.vertices.1)) is) (image_few d s.dim w x) e).1
    ∙ ap (λ v. image_numbers d s.dim v x) (sym c.vertex_at.ensures))))

pub returns-else-branch-clause-none : goal.returns-else-branch-clause-none
unfolding image_row
returns-else-branch-clause-none c = λ x rest is e.
    let d = c.args.dim in let s = c.args.size.now in let w = vertex_at d c.args.m c.args.i in
    true≢false (sym (c.in_ok-next_row.ensures.every (image_numbers d s.dim w x) rest
    (image_wide d s.dim c.args.m c.args.i s.vertices x c.requires.few (omega (arith, c.requires.size.vertices.1)) is) (image_few d s.dim w x) e).0
    ∙ c.if-branch.false)
