use Rattle.std.{proofs.Common.subst, proofs.lemmas.Int.to_z-of_z, specs.Int.w128}
use Rattle.connected_dim.{specs.Lattices.IsLatticeOf, proofs.Generated.closed_of}
use Rattle.connected_dim.proofs.verdicts.closed_lattice.Goals as goal

pub returns : goal.returns
returns g c =
    let rows = subst (λ m. IsLatticeOf g.row.D m c.args.gs.now c.lattice.result) (to_z-of_z w128 c.args.m c.ranges.m) c.lattice.ensures in
    closed_of c.args.g.now c.args.found.now g.row.D c.args.gs.now c.args.m c.lattice.result c.recall.ensures.is_graph c.requires.walks
    c.recall.ensures.parameter c.requires.generators c.requires.volume rows
