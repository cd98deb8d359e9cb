-- A function that is at each vertex of a connected net the mean over its neighbours is constant, if it repeats or is bounded above.
-- Bounded whole numbers have a greatest one only by a search without end. So that proof goes by how far below the bound a value lies.
use Rattle.std.proofs.Common.{◌≡◌, ◌⊎◌, inl, inr, ◌≤ℤ◌, ◌≤◌, ◌<◌, ◌-◌, ◌-ℤ◌, ◌+ℤ◌, ◌*ℤ◌, ◌∙◌, ℤ, ℕ, pos, zero, suc, List, ap, arith, refl, subst, sym}
use Rattle.std.proofs.lemmas.Int.{ints, by_lt_z}
use Rattle.std.specs.Prelude.{unsigned_abs}
use Rattle.integers.specs.Vectors.{times, vector}
use Rattle.integers.proofs.lists.Tables.{greatest_at, Searchable, search_below, search_pair}
use Rattle.integers.proofs.{numbers.Division.divided, vectors.Laws.vector_equal}
use Rattle.periodic_net.specs.Graph.{arcs_from, Graph, IsConnected, IsGraph, IsQuotientVertex, IsVertex, IsWalk, moved, vertex, Vertex}
use Rattle.periodic_net.specs.{Harmonic.IsNetHarmonic, Harmonic.Repeats, Laws.BoundedHarmonicIsConstant}
use Rattle.periodic_net.proofs.{harmonic.Level.level_along, isomorphisms.Periods.end_of}
use Rattle.periodic_net.proofs.ordered.WholeNumbers.{at_most, sum_is_total, whole_numbers}

-- a function on the vertices of the quotient graph has a greatest value
search_vertices : (G : Graph) → IsGraph G → Searchable ℕ (IsQuotientVertex G)
search_vertices G g f =
    let e : suc (G.vertices - 1) ≡ G.vertices = omega arith in let r = greatest_at f (G.vertices - 1) in
    (r.0, (r.1, subst (λ (k : ℕ). r.0 ≤ k) e r.2), λ v h. r.3 v h.0 (subst (λ (k : ℕ). v ≤ k) (sym e) h.1))

-- along a walk from a vertex if F is greatest it stays the same
along_walk : (G : Graph) → IsGraph G → (F : Vertex → ℤ) → IsNetHarmonic G F → (m : ℤ) → ((x : Vertex) → IsVertex G x → F x ≤ℤ m)
    → (steps : List Vertex) (w x : Vertex) → IsVertex G w → F w ≡ m → IsWalk G w steps x → F x ≡ m
along_walk G g F h m top =
    level_along whole_numbers G g F (λ w i. sum_is_total (λ a. F (end_of w a) -ℤ F w) (arcs_from G w.over) ∙ h w i) m (λ x i. at_most (F x) m (top x i))

-- a vertex of the net at which F is greatest
greatest_vertex : (G : Graph) → IsGraph G → (m : ℕ) → 1 ≤ m → (F : Vertex → ℤ) → Repeats G m F
    → (w : Vertex) × IsVertex G w × ((x : Vertex) → IsVertex G x → F x ≤ℤ F w)
greatest_vertex G g m one F rep = by g.dimension
  where
    -- with third parts below n
    below : (n : ℕ) → 1 ≤ n → ((r : ℕ) → r < n → G.dimension ≡ 2 → pos r ≡ pos 0)
        → ((x : Vertex) → IsVertex G x → (r : ℕ) × (k : ℤ) × (r < n) × (G.dimension ≡ 2 → k ≡ pos 0) × (pos r +ℤ pos m *ℤ k ≡ x.cell.z))
        → (w : Vertex) × IsVertex G w × ((x : Vertex) → IsVertex G x → F x ≤ℤ F w)
    below n some flat last =
        let s = search_pair (IsQuotientVertex G) (λ p. (p.0 < m) × ((p.1.0 < m) × (p.1.1 < n))) (search_vertices G g)
        (search_pair (λ r. r < m) (λ p. (p.0 < m) × (p.1 < n)) (search_below m one)
        (search_pair (λ r. r < m) (λ r. r < n) (search_below m one) (search_below n some))) in
        let at = λ (p : ℕ × (ℕ × (ℕ × ℕ))). vertex p.0 (vector (pos p.1.0) (pos p.1.1.0) (pos p.1.1.1)) in
        let r = s (λ p. F (at p)) in (
          at r.0,
          record { over = r.1.0; cell = flat r.0.1.1.1 r.1.1.1.1 },
          λ x i.
              let sx = divided m one x.cell.x in let sy = divided m one x.cell.y in let sz = last x i in
              let p : ℕ × (ℕ × (ℕ × ℕ)) = (x.over, (sx.0, (sy.0, sz.0))) in
              let k = vector sx.1 sy.1 sz.1 in let low = r.2 p (i.over, (sx.2, (sy.2, sz.2))) in
              let q = rep (at p) k (record { over = i.over; cell = flat sz.0 sz.2 }) sz.3 in
              let e : moved (at p) (times (pos m) k) ≡ x = λ l. record { over = x.over; cell = vector_equal (sym sx.3) (sym sy.3) sz.4 l } in
              subst (λ (n : ℤ). n ≤ℤ F (at r.0)) (sym q ∙ ap F e) low,
        )

    by : (G.dimension ≡ 2) ⊎ (G.dimension ≡ 3) → (w : Vertex) × IsVertex G w × ((x : Vertex) → IsVertex G x → F x ≤ℤ F w)
    by (inl two) = below 1 (omega arith) (λ r l d. let e : r ≡ 0 = omega arith in ap pos e)
        (λ x i. (0, pos 0, omega arith, (λ d. refl), (let z : x.cell.z ≡ pos 0 = i.cell two in omega (arith, ints))))
    by (inr three) = below m one (λ r l d. absurd (omega (arith, d, three)))
        (λ x i. let s = divided m one x.cell.z in (s.0, s.1, s.2, (λ d. absurd (omega (arith, d, three))), sym s.3))

-- in a connected net a periodic function that is at each vertex the mean over its neighbours is constant
pub periodic_constant : (G : Graph) → IsGraph G → IsConnected G → (m : ℕ) → 1 ≤ m → (F : Vertex → ℤ) → Repeats G m F → IsNetHarmonic G F
    → (w x : Vertex) → IsVertex G w → IsVertex G x → F w ≡ F x
periodic_constant G g c m one F rep h w x i j =
    let t = greatest_vertex G g m one F rep in
    let to = λ (y : Vertex) (k : IsVertex G y). let s = c t.0 y t.1 k in along_walk G g F h (F t.0) t.2 s.0 t.0 y t.1 refl s.1 in
    to w i ∙ sym (to x j)

-- b is at most a, if it would be equal to a if it were above it
not_above : (a b most : ℤ) (k : ℕ) → most ≤ℤ (a +ℤ pos (suc k)) → (most ≤ℤ (b +ℤ pos k) → a ≡ b) → b ≤ℤ a
not_above a b most k near same = by_lt_z a b (λ lt. let e = same (omega (arith, ints)) in omega (arith, ints)) (λ le. le)

-- a number that is at least a bound is at least what is below the bound
at_bound : (a b most : ℤ) → most ≤ℤ (a +ℤ pos 0) → b ≤ℤ most → b ≤ℤ a
at_bound a b most near h = omega (arith, ints)

-- from a vertex at which F is at most k below the bound, F is the same everywhere: above it no value lies, since the vertices of such a
-- value are nearer to the bound
constant_near : (G : Graph) → IsGraph G → IsConnected G → (F : Vertex → ℤ) → IsNetHarmonic G F → (most : ℤ) → ((w : Vertex) → IsVertex G w → F w ≤ℤ most)
    → (k : ℕ) (w x : Vertex) → IsVertex G w → IsVertex G x → most ≤ℤ (F w +ℤ pos k) → F x ≡ F w
constant_near G g c F h most top zero w x i j near =
    let s = c w x i j in
    along_walk G g F h (F w) (λ (v : Vertex) (l : IsVertex G v). at_bound (F w) (F v) most near (top v l)) s.0 w x i refl s.1
constant_near G g c F h most top (suc k) w x i j near =
    let s = c w x i j in
    along_walk G g F h (F w)
    (λ (v : Vertex) (l : IsVertex G v). not_above (F w) (F v) most k near (λ near'. constant_near G g c F h most top k v w l i near'))
    s.0 w x i refl s.1

-- each number is within some distance of each other
within_distance : (a b : ℤ) → a ≤ℤ (b +ℤ pos (unsigned_abs (a -ℤ b)))
within_distance a b = grind arith

-- bounded above, it is constant
pub bounded_constant : BoundedHarmonicIsConstant
bounded_constant G g c F most top h w x i j =
    sym (constant_near G g c F h most top (unsigned_abs (most -ℤ F w)) w x i j (within_distance most (F w)))
