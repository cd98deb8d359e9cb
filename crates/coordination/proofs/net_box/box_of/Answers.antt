use Rattle.std.{proofs.Common.subst, proofs.Common.lit<, specs.Prelude.Option, specs.Prelude.IfSome}
use Rattle.coordination.{specs.Extents.IsExtent, specs.Extents.IsNarrow, specs.declared.extent.Extent.Extent, specs.declared.extent.TheConstants.WIDEST}
use Rattle.coordination.{proofs.Boxes.shifts_within}
use Rattle.coordination.proofs.net_box.box_of.Goals as goal

pub stars_of-requires : goal.stars_of-requires
stars_of-requires g c =
    let P = c.args.cell.now.graph in
    let narrow = subst (λ (o : Option Extent). IfSome o (IsNarrow WIDEST)) c.in-Some.is c.in_ok-extent.ensures.narrow in
    let extent = subst (λ (o : Option Extent). IfSome o (IsExtent P)) c.in-Some.is c.in_ok-extent.ensures.extent in
    (lit< tt, (c.requires.graph, (c.requires.few, (narrow, shifts_within P c.in-Some.extent c.requires.graph extent))))
