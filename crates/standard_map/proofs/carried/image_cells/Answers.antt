use Rattle.std.proofs.Common.{lit<, sym, subst, ap, ◌∙◌}
use Rattle.std.specs.List.{All}
use Rattle.periodic_net.specs.Graph.{Graph}
use Rattle.standard_map.specs.Turns.{AreFull, AreIndependentTurns, IsTurn}
use Rattle.standard_map.proofs.EdgeTurns.{turns_carried}
use Rattle.standard_map.proofs.carried.image_cells.Goals as goal

pub independent-requires : goal.independent-requires
independent-requires g c =
    let each = subst (All (IsTurn c.args.here.now c.args.there.now)) (sym c.deref.ensures.value) c.in_ok-found.ensures.each in
    (lit< tt, (λ k d l. (each k d l).shift, subst (AreFull g.row.D) (sym c.deref.ensures.value) c.in_ok-found.ensures.full))

pub cells_by-requires : goal.cells_by-requires
cells_by-requires g c =
    let S = c.args.here.now in let T = c.args.there.now in let ts = c.deref.result.now in
    let each = subst (All (IsTurn S T)) (sym c.deref.ensures.value) c.in_ok-found.ensures.each in
    let dimension = ap (λ (H : Graph). H.dimension) (sym c.graph.ensures) ∙ c.recall.ensures.parameter in
    let shifts = c.independent.result.shifts in let images = c.independent.result.images in
    let turns = subst (λ d. AreIndependentTurns d ts shifts images) (sym dimension) c.independent.ensures in
    (lit< tt, (lit< tt, (c.requires.one_key, turns_carried S T ts each shifts images turns)))
