use Rattle.std.{proofs.Common.subst, proofs.Common.refl, proofs.lemmas.Int.to_z-of_z, specs.Int.w128}
use Rattle.connected_dim.{specs.Lattices.IsLatticeOf, proofs.Generated.connected_by_some}
use Rattle.connected_dim.proofs.early.generate_all.Goals as goal

pub returns-in-None : goal.returns-in-None
returns-in-None g c = λ shown.
    let rows = subst (λ m. IsLatticeOf g.row.D m c.args.gs.now c.lattice-s.result) (to_z-of_z w128 c.args.m c.ranges.m) c.lattice-s.ensures in
    connected_by_some c.args.g.now c.args.found.now g.row.D c.args.gs.now c.args.m c.lattice-s.result c.recall.ensures.is_graph c.requires.walks
    c.requires.all c.recall.ensures.parameter c.requires.closed c.requires.volume rows (c.in-None.ensures.none refl)
