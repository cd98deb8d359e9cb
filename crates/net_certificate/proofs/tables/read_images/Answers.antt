-- Of `read_images`: what `next_image` requires; the loop over `i`; what it ensures.
use Rattle.std.proofs.Common.{◌<◌, ◌*◌, ◌^◌, [], ◌∷◌, ◌++◌, length, refl, sym, ap, ◌∙◌, subst, arith}
use Rattle.std.proofs.lemmas.{List.length-append, Result.err_from_is_err_and}
use Rattle.periodic_net.specs.Graph.{Vertex}
use Rattle.line_text.{specs.Lines.IsAt, proofs.CallerLemmas.at_none, proofs.CallerLemmas.at_some}
use Rattle.map_check.specs.{Conditions.IsImage, Layouts.vertex_at}
use Rattle.net_certificate.specs.Stages.{Mapped, drawing, map_with}
use Rattle.net_certificate.specs.{Rows.OfImage, Rows.image_row, Steps.NoImage, Reading.IsIn}
use Rattle.net_certificate.proofs.Places.{no_image, row_in, bad_in}
use Rattle.net_certificate.proofs.tables.read_images.Goals as goal

pub returns-in_default-clause-images : goal.returns-in_default-clause-images
returns-in_default-clause-images c = λ text items edges others is.
    let s = c.args.first.now in let t = c.args.second.now in let m = c.args.m in
    let M = map_with m c.loop-i.images [] in
    bad_in text (Mapped (drawing s edges) items (drawing t others) M) c.loop-i.lines c.number-line.result
    (c.loop-i.invariant.0 text items edges others is) c.number-line.ensures.number
    (no_image (drawing s edges) items (drawing t others) M c.loop-i.lines.rest
    (omega (arith, c.loop-i.invariant.1, c.loop-i-test.true, c.image_count-i-end.ensures, c.requires.period.few))
    (subst (λ n. NoImage s.dim (vertex_at s.dim m n) t c.loop-i.lines.rest) (sym c.loop-i.invariant.1)
    (at_none c.in_ok-x.field-0 (NoImage s.dim (vertex_at s.dim m c.loop-i.i) t c.loop-i.lines.rest) c.in_default.is c.in_ok-x.ensures.none)))
    (λ may. absurd may)

pub loop-i-preserved : goal.loop-i-preserved
loop-i-preserved c =
    let s = c.args.first.now in let t = c.args.second.now in let m = c.args.m in let x = c.in-Some.x in
    let M = map_with m c.loop-i.images [] in let w = vertex_at s.dim m c.loop-i.i in
    let less : length c.loop-i.images < s.vertices * m ^ s.dim =
    omega (arith, c.loop-i.invariant.1, c.loop-i-test.true, c.image_count-i-end.ensures, c.requires.period.few) in (
      (λ text items edges others is.
          subst (λ l. IsIn text (Mapped (drawing s edges) items (drawing t others) (map_with m l [])) c.next_image.new.lines) (sym c.in_ok-push.ensures.ok)
          (row_in text (Mapped (drawing s edges) items (drawing t others) M) (OfImage s.dim t.dim w x) c.loop-i.lines c.next_image.new.lines
          (c.loop-i.invariant.0 text items edges others is) (
            refl,
            refl,
            ap (λ n. vertex_at s.dim m n) (sym c.loop-i.invariant.1),
            less,
            at_some c.in_ok-x.field-0 (λ (y : Vertex). IsImage t.dim t.vertices y) x c.in-Some.is c.in_ok-x.ensures.form,
          )
          (λ rows at. at_some c.in_ok-x.field-0 (λ (y : Vertex). IsAt text (rows ++ image_row s.dim t.dim w y ∷ []) c.next_image.new.lines) x c.in-Some.is
          (c.in_ok-x.ensures.place text rows at)))),
      (let long = ap length c.in_ok-push.ensures.ok ∙ length-append c.loop-i.images (x ∷ []) in omega (arith, long, c.loop-i.invariant.1)),
    )

pub next_image-requires-clause-few : goal.next_image-requires-clause-few
next_image-requires-clause-few c = omega (arith, c.loop-i-test.true, c.image_count-i-end.ensures, c.requires.period.few)

pub returns-in_err-x : goal.returns-in_err-x
returns-in_err-x c =
    let told = err_from_is_err_and c.from_residual.result c.from_residual.ensures.1 in
    record { count = rw told.1 tt; images = λ text items edges others is. rw (told.1, told.2) tt }

pub returns-in_err-push : goal.returns-in_err-push
returns-in_err-push c =
    let told = err_from_is_err_and c.from_residual-in_err-push.result c.from_residual-in_err-push.ensures.1 in
    record { count = rw told.1 tt; images = λ text items edges others is. rw (told.1, told.2) tt }

pub returns : goal.returns
returns c = record {
  count = omega (arith, c.loop-i.invariant.1, c.loop-i-test.false, c.loop-i.auto.i-end, c.image_count-i-end.ensures, c.requires.period.few);
  images = c.loop-i.invariant.0;
}
