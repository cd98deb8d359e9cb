-- Of `in_coordinates`: the loop over `c`; what it ensures; what `arcs_in` and `from_parts` require.
use Rattle.std.proofs.Common.{◌≡◌, ◌⊎◌, ◌∙◌, sym, ap, subst, ℕ, ◌+◌, ◌≤◌, lit<, arith, map, List, [], ◌∷◌}
use Rattle.std.proofs.lemmas.List.{map-append}
use Rattle.periodic_net.specs.Classes.{ClassGraph, ClassArc}
use Rattle.key_theory.specs.Coordinates.{AreCoordinates}
use Rattle.vecdim.specs.Stairs.{Stairs}
use Rattle.primitive_cell.specs.Lattices.{AreInside, AreWithinUnits, IsInCoordinates, AreInCoordinates}
use Rattle.primitive_cell.proofs.WholeGraph.{short_arcs, are_coordinates, is_net_in_memory, one_more_written}
use Rattle.primitive_cell.proofs.coordinates.in_coordinates.Goals as goal

pub arcs_in-requires : goal.arcs_in-requires
arcs_in-requires g c =
    let n = c.args.classes.now in
    let t = subst (λ (d : ℕ). (d ≡ 2) ⊎ (d ≡ 3)) c.count-count.ensures.dimension c.count-count.ensures.small.net.balanced.two_or_three in
    let low = c.loop-c.auto.c in let end = c.loop-c-test.true in let count = c.count-count.ensures.count in
    let inside = c.arc_lattice-lattice.ensures c.loop-c.c (low, omega (arith, end, count)) in
    let short = rw (← c.net-net.ensures.net) at (short_arcs n.graph n.numbers n.classes n.translations c.net-net.ensures.classes c.loop-c.c) in
    let here = subst (AreInside g.row.D c.arc_lattice-lattice.result) (sym c.arcs.ensures.arcs) inside in
    (lit< tt, (lit< tt, (t, (here, subst AreWithinUnits (sym c.arcs.ensures.arcs) short))))

pub loop-c-preserved : goal.loop-c-preserved
loop-c-preserved g c =
    let K = c.net-net.result.now in let S = c.arc_lattice-lattice.result in
    let new = subst (λ (old : List ClassArc). IsInCoordinates g.row.D S old c.in_ok-arcs_in.field-0.items) c.arcs.ensures.arcs c.in_ok-arcs_in.ensures in
    let more = one_more_written g.row.D S K c.loop-c.c (map (λ s. s.items) c.loop-c.stars.items) c.in_ok-arcs_in.field-0.items c.loop-c.invariant new in
    rw (ap (map (λ s. s.items)) c.in_ok-push.ensures.items ∙ map-append (λ s. s.items) c.loop-c.stars.items (c.in_ok-arcs_in.field-0 ∷ [])) more

-- the loop ends after the last class
last_written : (d : ℕ) (S : Stairs) (K : ClassGraph) (m n : ℕ) (stars : List (List ClassArc)) → n ≡ K.count → n + 1 ≤ m → m ≤ n + 1
    → AreInCoordinates d S K m stars → AreInCoordinates d S K (K.count + 1) stars
last_written d S K m n stars e low high h = let same : m ≡ K.count + 1 = omega (arith, e, low, high) in subst (λ (k : ℕ). AreInCoordinates d S K k stars) same h

pub from_parts-requires : goal.from_parts-requires
from_parts-requires g c =
    let K = c.net-net.result.now in let known = c.count-count.ensures in
    let stars = map (λ s. s.items) c.loop-c.stars.items in
    let written = last_written g.row.D c.arc_lattice-lattice.result K c.loop-c.c c.count-count.result stars known.count c.loop-c-test.false
    (c.loop-c.auto.c-end (omega arith)) c.loop-c.invariant in
    (lit< tt, (lit< tt, is_net_in_memory g.row.D c.arc_lattice-lattice.result c.recall.ensures.stair K known.small known.stars known.dimension stars written))

pub returns : goal.returns
returns g c =
    let K = c.net-net.result.now in let known = c.count-count.ensures in
    let stars = map (λ s. s.items) c.loop-c.stars.items in
    let written = last_written g.row.D c.arc_lattice-lattice.result K c.loop-c.c c.count-count.result stars known.count c.loop-c-test.false
    (c.loop-c.auto.c-end (omega arith)) c.loop-c.invariant in
    let same = are_coordinates g.row.D c.arc_lattice-lattice.result c.recall.ensures.stair K known.small known.stars known.dimension stars written in
    rw c.from_parts.ensures (subst (AreCoordinates _) c.net-net.ensures.net same)
