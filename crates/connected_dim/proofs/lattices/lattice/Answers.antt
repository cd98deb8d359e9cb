use Rattle.std.{proofs.Common.subst, proofs.lemmas.Int.to_z-of_z, specs.Int.w128}
use Rattle.vecdim.specs.Lattices.{Members, AreMultiples}
use Rattle.connected_dim.proofs.lattices.lattice.Goals as goal

pub returns : goal.returns
returns g c = record {
  start = c.from_bound-s.result;
  multiples = subst (λ m. AreMultiples g.row.D m (Members g.row.D c.from_bound-s.result)) (to_z-of_z w128 c.args.m c.ranges.m) c.from_bound-s.ensures;
  with = c.insert_all.ensures;
}
