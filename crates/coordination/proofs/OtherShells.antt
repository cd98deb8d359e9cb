-- A bijection that joins alike keeps the sizes of shells. So it is refuted by sizes that no vertex has.
use Rattle.std.proofs.Common.{◌≡◌, ℕ, zero, suc, ◌+◌, ◌-◌, [], ◌∷◌, ap, sym, subst, get_or, arith, ◌∙◌}
use Rattle.integers.specs.Vectors.{opposite, zero_vector}
use Rattle.integers.proofs.vectors.Laws.{opposite_dimension}
use Rattle.periodic_net.specs.{Graph.Graph, Graph.Vertex, Graph.IsGraph, Graph.IsVertex, Graph.vertex, Graph.moved, Shells.IsShellSize}
use Rattle.periodic_net.proofs.isomorphisms.Bijections.{back}
use Rattle.periodic_net.specs.Examples.{square_net}
use Rattle.periodic_net.proofs.CallerLemmas.{bare_matching, matching_turned, origin_vertex, square_graph}
use Rattle.key_theory.proofs.CallerLemmas.{square_keyable}
use Rattle.coordination.specs.Sequences.{AreShellsOf}
use Rattle.coordination.specs.Laws.{AreFirstSizes, BareKeepsShells, DefinitionsHaveInstances, OtherShellsRefute, SequencesAreKept}
use Rattle.coordination.proofs.PointShells.{each_size}
use Rattle.coordination.proofs.ClassShells.{class_met, one_sequence, sizes_back, move_matching, one_size, plus_back, size_back}

-- the sizes of the shells of a vertex and of its image
pub bare_keeps_shells : BareKeepsShells
bare_keeps_shells G H w k n g h i e =
    let r = back G H e.map e.bijection in let m = bare_matching G H e in let t = matching_turned G H e.map r m in (
      (λ s. size_back H G h g r e.map t (e.map w) (m.into w i) k n (subst (λ (x : Vertex). IsShellSize G x k n) (sym (m.back_there w i)) s)),
      (λ s. size_back G H g h e.map r m w i k n s),
    )

-- a vertex has the sizes of that in cell 0
pub size_from_origin : (G : Graph) → IsGraph G → (x : Vertex) → IsVertex G x → (k n : ℕ) → IsShellSize G (vertex x.over zero_vector) k n → IsShellSize G x k n
size_from_origin G g x v k n s =
    let away = opposite x.cell in
    let origin : moved x away ≡ vertex x.over zero_vector = ap (vertex x.over) (plus_back x.cell) in
    size_back G G g g (λ y. moved y away) (λ y. moved y (opposite away)) (move_matching G away (opposite_dimension G.dimension x.cell v.cell)) x v k n
    (subst (λ (y : Vertex). IsShellSize G y k n) (sym origin) s)

pub other_shells_refute : OtherShellsRefute
other_shells_refute G H w sizes g h i first other e =
    let v = (bare_matching G H e).into w i in let x = e.map w in let d = other x.over v.over in
    let there = (bare_keeps_shells G H w (d.place + 1) (get_or sizes d.place 0) g h i e).0 (first d.place d.inside) in
    let here = size_from_origin H h x v (d.place + 1) d.size d.is_size in
    d.other (one_size H x (d.place + 1) d.size (get_or sizes d.place 0) here there)

pub sequences_are_kept : SequencesAreKept
sequences_are_kept G H xs ys g h a b e k l =
    let s = a.shape in let t = b.shape in let n = a.count in
    let c = class_met G s.placement s.class_of s.classes s.is_classes (k + 1) (omega arith) (omega (arith, l, n)) in
    let w = vertex c.0 zero_vector in let i = origin_vertex G c.0 c.1 in
    let r = back G H e.map e.bijection in let m = bare_matching G H e in let x = e.map w in let v = m.into w i in
    let low = t.is_classes.numbering.positive x.over v.over in let high = t.is_classes.below x.over v.over in let count = b.count in
    let j = t.class_of x.over - 1 in
    let at : s.class_of c.0 - 1 ≡ k = ap (λ (d : ℕ). d - 1) c.2 ∙ less k in
    let here = subst (λ (d : ℕ). AreShellsOf G w (get_or xs d [])) at (a.each w i) in
    let there = sizes_back G H g h e.map r m w i (get_or ys j []) (b.each x v) in
    (j, omega (arith, low, high, count), one_sequence G w (get_or xs k []) (get_or ys j []) here there)
  where
    less : (k : ℕ) → k + 1 - 1 ≡ k
    less k = omega arith

-- the first shell of a vertex of the square net
square_shell : (size : ℕ) × IsShellSize square_net (vertex 1 zero_vector) 1 size
square_shell = each_size square_net square_graph square_keyable.shape (vertex 1 zero_vector) (origin_vertex square_net 1 (omega arith, omega arith)) 1

-- the size of the first shell, in a list of one
one_size_listed : (size : ℕ) → IsShellSize square_net (vertex 1 zero_vector) 1 size → AreFirstSizes square_net (vertex 1 zero_vector) (size ∷ [])
one_size_listed size s zero l = s
one_size_listed size s (suc k) l = absurd (omega (arith, l))

pub definitions_have_instances : DefinitionsHaveInstances
definitions_have_instances = record {
  first = (vertex 1 zero_vector, square_shell.0, one_size_listed square_shell.0 square_shell.1);
  other = (
    1,
    square_shell.0 + 1,
    record {
      place = 0;
      inside = omega arith;
      size = square_shell.0;
      is_size = square_shell.1;
      other = λ e. omega (arith, e);
    },
  );
}
