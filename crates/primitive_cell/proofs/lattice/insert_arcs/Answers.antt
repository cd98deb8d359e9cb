use Rattle.std.proofs.Common.{◌∙◌, ap, subst, ◌∷◌, []}
use Rattle.std.proofs.lemmas.List.{take_all}
use Rattle.integers.specs.Vectors.{Vector}
use Rattle.periodic_net.specs.Classes.{ClassArc}
use Rattle.vecdim.{specs.Lattices.Members, specs.Lattices.IsWith, proofs.CallerLemmas.with_start}
use Rattle.primitive_cell.{specs.Lattices.AreInside, proofs.WholeGraph.one_more_inside}
use Rattle.primitive_cell.proofs.lattice.insert_arcs.Goals as goal

pub loop-arc-preserved : goal.loop-arc-preserved
loop-arc-preserved g c =
    let before = Members g.row.D c.loop-arc.lattice in let after = Members g.row.D c.insert.new.self in
    let same = ap (λ (a : ClassArc). a.vector) (c.arc.view_is ∙ c.arc-item.is) in
    let added = subst (λ (v : Vector). IsWith before (v ∷ []) after) same c.insert.ensures in (
      (λ v m. with_start before after (c.arc.inside.vector ∷ []) c.insert.ensures v (c.loop-arc.invariant.0 v m)),
      one_more_inside g.row.D c.loop-arc.lattice c.insert.new.self c.args.arcs.now c.loop-arc.arc-index c.arc-item.result c.loop-arc-test.true added
          c.loop-arc.invariant.1,
    )

pub returns-clause-added : goal.returns-clause-added
returns-clause-added g c =
    subst (AreInside g.row.D c.loop-arc.lattice) (take_all c.loop-arc.arc-index c.args.arcs.now c.loop-arc-test.false) c.loop-arc.invariant.1
