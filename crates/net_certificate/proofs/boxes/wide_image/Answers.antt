use Rattle.std.proofs.Common.{sym, subst, ◌∙◌}
use Rattle.integers.specs.Vectors.{parts}
use Rattle.periodic_net.specs.Graph.{Vertex}
use Rattle.net_certificate.specs.Tables.{IsFirstWide}
use Rattle.net_certificate.proofs.FirstWide.{found_at, passed_all, passed_more}
use Rattle.net_certificate.proofs.boxes.wide_image.Goals as goal

pub returns-then-is_some : goal.returns-then-is_some
returns-then-is_some g c =
    found_at (λ (w : Vertex). parts g.row.D w.cell) c.args.images.now c.loop-image.image-index c.image-item.result c.loop-image-test.true c.image-item.is
    c.wide_part-z.result
    (sym c.is_some.ensures ∙ c.if-is_some.true) c.loop-image.invariant
    (subst (λ (w : Vertex). IsFirstWide (parts g.row.D w.cell) c.wide_part-z.result) c.image.view_is c.wide_part-z.ensures)

pub loop-image-preserved : goal.loop-image-preserved
loop-image-preserved g c =
    passed_more (λ (w : Vertex). parts g.row.D w.cell) c.args.images.now c.loop-image.image-index c.image-item.result c.loop-image-test.true c.image-item.is
    c.wide_part-z.result
    (sym c.is_some.ensures ∙ c.if-is_some.false) c.loop-image.invariant
    (subst (λ (w : Vertex). IsFirstWide (parts g.row.D w.cell) c.wide_part-z.result) c.image.view_is c.wide_part-z.ensures)

pub returns : goal.returns
returns g c = passed_all (λ (w : Vertex). parts g.row.D w.cell) c.args.images.now c.loop-image.image-index c.loop-image.invariant c.loop-image-test.false
