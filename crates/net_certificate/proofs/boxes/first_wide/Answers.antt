use Rattle.std.{proofs.Common.sym, proofs.Common.◌∙◌, specs.List.flat_map}
use Rattle.integers.specs.Vectors.{parts}
use Rattle.periodic_net.specs.Graph.{Vertex}
use Rattle.net_certificate.proofs.FirstWide.{wide_more, wide_some}
use Rattle.net_certificate.proofs.boxes.first_wide.Goals as goal

pub returns-then-is_some : goal.returns-then-is_some
returns-then-is_some g c =
    wide_some (flat_map (λ (w : Vertex). parts g.row.D w.cell) c.args.images.now) (flat_map (parts g.row.D) c.args.rows.now) c.wide_image-z.result
    (sym c.is_some.ensures ∙ c.if-is_some.true) c.wide_image-z.ensures

pub returns : goal.returns
returns g c =
    wide_more (flat_map (λ (w : Vertex). parts g.row.D w.cell) c.args.images.now)
    (flat_map (parts g.row.D) c.args.rows.now) c.wide_image-z.result c.wide_row.result
    (sym c.is_some.ensures ∙ c.if-is_some.false) c.wide_image-z.ensures c.wide_row.ensures
