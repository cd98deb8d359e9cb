use Rattle.std.proofs.Common.{◌≡◌, ◌⊎◌, subst, ℕ, ◌<◌, ◌≤◌, lit<, arith, ⊎_elim}
use Rattle.std.{proofs.lemmas.Bool.cases_lt, proofs.lemmas.Int.ints, proofs.lemmas.Int.to_z-of_z, specs.Int.w128}
use Rattle.quotient_graph.specs.ClassNets.{arcs_of}
use Rattle.primitive_cell.proofs.WholeGraph.{at_least_two, at_most_three, more_inside}
use Rattle.primitive_cell.specs.Lattices.{AreInside}
use Rattle.primitive_cell.proofs.lattice.arc_lattice.Goals as goal

pub from_bound-lattice-requires : goal.from_bound-lattice-requires
from_bound-lattice-requires g c =
    let t = subst (λ (d : ℕ). (d ≡ 2) ⊎ (d ≡ 3)) c.count-count.ensures.dimension c.count-count.ensures.small.net.balanced.two_or_three in
    let to = c.requires.to in
    (lit< tt, (at_least_two g.row.D t, (at_most_three g.row.D t, rw (to_z-of_z w128 c.args.bound c.ranges.bound) (c.requires.from, omega (arith, ints, to)))))

pub loop-c-preserved : goal.loop-c-preserved
loop-c-preserved g c e low high =
    ⊎_elim (λ (l : e < c.loop-c.c). more_inside g.row.D c.loop-c.lattice c.insert_arcs.new.lattice c.insert_arcs.ensures.kept (arcs_of c.args.net.now e)
    (c.loop-c.invariant e low l))
    (λ (m : c.loop-c.c ≤ e).
    let same : e ≡ c.loop-c.c = omega (arith, m, high) in
    rw same (subst (AreInside g.row.D c.insert_arcs.new.lattice) c.arcs.ensures.arcs c.insert_arcs.ensures.added))
    (cases_lt e c.loop-c.c)

pub returns : goal.returns
returns g c e i = let end = c.loop-c-test.false in let count = c.count-count.ensures.count in let high = i.1 in
    c.loop-c.invariant e i.0 (omega (arith, end, count, high))
