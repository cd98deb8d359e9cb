-- The edges of the base nets, their lines, and that the text of the workload is small.
use Rattle.std.proofs.Common.{◌≡◌, ℕ, zero, suc, ◌<◌, ◌≤◌, true, length, refl, arith, ◌+◌, List, ◌++◌, flat_map, ap, sym, ◌∙◌, append_assoc, add-one}
use Rattle.std.proofs.Common.{◌-◌, ℤ, pos, negsuc, ◌+ℤ◌, ◌*ℤ◌, ◌&&◌, nat_lt, [], lit<, ◌*◌, ◌∷◌}
use Rattle.std.proofs.{lemmas.List.append-nil, lemmas.List.length-append, lemmas.Bool.ltb-true, lemmas.Bool.and_parts, lemmas.Int.ints}
use Rattle.std.proofs.{lemmas.Nat.mul-le, Math.Nat.div-le_self, lemmas.Fmt.length-decimal-le, lemmas.Fmt.length_signed_le}
use Rattle.std.specs.{List.list_all, List.range_with_len, Prelude.unsigned_abs, Int.int_rem_euclid, Int.int_div_euclid, Fmt.decimal}
use Rattle.workload.specs.BaseNets.{base_nets, base_edges, is_base_edge, is_unit, dimension}
use Rattle.workload.specs.Workload.{edge_line, edge_at, part_text, third_text, vertex_at, cells_passed, place_after, place_lines, edges_text}
use Rattle.workload.specs.Workload.{block_text, workload, base_of, cells_of, shear_of, most_nets, most_text}
use Rattle.workload.specs.declared.edge.Edge.{Edge}

pub all_base : (b : ℕ) → b < 8 → list_all is_base_edge (base_edges b) ≡ true
unfolding base_nets
all_base zero l = refl
all_base (suc zero) l = refl
all_base (suc (suc zero)) l = refl
all_base (suc (suc (suc zero))) l = refl
all_base (suc (suc (suc (suc zero)))) l = refl
all_base (suc (suc (suc (suc (suc zero))))) l = refl
all_base (suc (suc (suc (suc (suc (suc zero)))))) l = refl
all_base (suc (suc (suc (suc (suc (suc (suc zero))))))) l = refl
all_base (suc (suc (suc (suc (suc (suc (suc (suc b)))))))) l = absurd (omega arith)

-- and there are at most six
pub few_base : (b : ℕ) → b < 8 → length (base_edges b) ≤ 6
unfolding base_nets
few_base b h = grind arith

-- A list of pieces for the first numbers, and one more piece.

-- the piece of the next number stands last
pieces_from : (f : ℕ → List ℕ) (a n j : ℕ) → a + n ≡ j → flat_map f (range_with_len a (suc n)) ≡ flat_map f (range_with_len a n) ++ f j
pieces_from f a zero j e = append-nil (f a) ∙ ap f (let q : a ≡ a + 0 = omega arith in q ∙ e)
pieces_from f a (suc n) j e =
    ap (λ xs. f a ++ xs) (pieces_from f (a + 1) n j (let q : a + 1 + n ≡ a + suc n = omega arith in q ∙ e))
    ∙ sym (append_assoc (f a) (flat_map f (range_with_len (a + 1) n)) (f j))

pub one_more_piece : (f : ℕ → List ℕ) (n : ℕ) → flat_map f (range_with_len 0 (n + 1)) ≡ flat_map f (range_with_len 0 n) ++ f n
one_more_piece f n = ap (λ m. flat_map f (range_with_len 0 m)) (add-one n) ∙ pieces_from f 0 n n (let q : 0 + n ≡ n = omega arith in q)

-- The lines of the edges are short.

-- a quotient and a remainder of small numbers
quotient_few : (z : ℤ) (m : ℕ) → unsigned_abs z ≤ 4 → unsigned_abs (int_div_euclid z (pos m)) ≤ 4
quotient_few z m k = search (arith, div-le_self)

remainder_within : (z : ℤ) (m : ℕ) → 0 < m → unsigned_abs (int_rem_euclid z (pos m)) < m
remainder_within z m h = search arith

-- so far a place is passed
passed_few : (m r : ℕ) (part : ℤ) → m ≤ 4 → r < m → is_unit part ≡ true → unsigned_abs (cells_passed m r part) ≤ 4
passed_few m r part a b h = quotient_few (pos r +ℤ part) m (let u = ltb-true (unsigned_abs part) 2 h in grind (arith, ints))

sheared_few : (x : ℤ) (k : ℕ) (y : ℤ) → unsigned_abs x ≤ 4 → k < 5 → is_unit y ≡ true → unsigned_abs (x +ℤ pos k *ℤ y) ≤ 8
sheared_few x k y a b h = grind (arith, ints)

vertex_few : (m u r : ℕ) → m ≤ 4 → r < m → u < 5 → vertex_at m u r ≤ 20
vertex_few m u r a b c = let l = mul-le (u - 1) m 4 4 (omega arith) a in omega (arith, l)

part_short : (part : ℤ) → unsigned_abs part ≤ 8 → length (part_text part) ≤ 3
unfolding part_text
part_short (pos n) h = let l = length_signed_le 1 (pos n) (omega arith) (omega arith) in omega (arith, l)
part_short (negsuc n) h = let l = length_signed_le 1 (negsuc n) (omega arith) (omega arith) in omega (arith, l)

third_short : (d : ℕ) (part : ℤ) → unsigned_abs part ≤ 8 → length (third_text d part) ≤ 3
unfolding third_text
third_short d part h = search (arith, part_short)

vertex_short : (u : ℕ) → u ≤ 20 → length (decimal u) ≤ 2
vertex_short u h = length-decimal-le 2 u (lit< tt) (omega arith) (omega arith)

-- the line of an edge with small numbers
line_short : (d : ℕ) (e : Edge) → e.u ≤ 20 → e.v ≤ 20 → unsigned_abs e.x ≤ 8 → unsigned_abs e.y ≤ 8 → unsigned_abs e.z ≤ 8 → length (edge_line d e) ≤ 15
unfolding edge_line
line_short d e a b x y z = search (arith, vertex_short, part_short, third_short, length-append)

-- the numbers of an edge are small
pub record IsSmallEdge (e : Edge) : Type 0 where
  pub u : e.u ≤ 20
  pub v : e.v ≤ 20
  pub x : unsigned_abs e.x ≤ 8
  pub y : unsigned_abs e.y ≤ 1
  pub z : unsigned_abs e.z ≤ 1

-- so are those of a base edge from a place
pub edge_small : (m k : ℕ) (e : Edge) (r : ℕ) → m ≤ 4 → k < 5 → r < m → is_base_edge e ≡ true → IsSmallEdge (edge_at m k e r)
edge_small m k e r a b l h =
    let yz = is_unit e.y && is_unit e.z in let xyz = is_unit e.x && yz in
    let s1 = and_parts (nat_lt 0 e.u) (nat_lt e.u 5 && (nat_lt 0 e.v && (nat_lt e.v 5 && xyz))) h in
    let s2 = and_parts (nat_lt e.u 5) (nat_lt 0 e.v && (nat_lt e.v 5 && xyz)) s1.1 in
    let s3 = and_parts (nat_lt 0 e.v) (nat_lt e.v 5 && xyz) s2.1 in
    let s4 = and_parts (nat_lt e.v 5) xyz s3.1 in let s5 = and_parts (is_unit e.x) yz s4.1 in
    let s6 = and_parts (is_unit e.y) (is_unit e.z) s5.1 in
    let inside = remainder_within (pos r +ℤ e.x) m (omega arith) in
    let y = ltb-true (unsigned_abs e.y) 2 s6.0 in let z = ltb-true (unsigned_abs e.z) 2 s6.1 in
    record {
      u = vertex_few m e.u r a l (ltb-true e.u 5 s2.0);
      v = vertex_few m e.v (place_after m r e.x) a inside (ltb-true e.v 5 s4.0);
      x = sheared_few (cells_passed m r e.x) k e.y (passed_few m r e.x a l s5.0) b s6.0;
      y = omega (arith, y);
      z = omega (arith, z);
    }

-- the line of a base edge from a place
pub edge_short : (d m k : ℕ) (e : Edge) (r : ℕ) → m ≤ 4 → k < 5 → r < m → is_base_edge e ≡ true → length (edge_line d (edge_at m k e r)) ≤ 15
edge_short d m k e r a b l h = grind (arith, edge_small, line_short)

-- The text of the workload is small.

-- as many pieces, of at most b bytes each
pieces_short : (f : ℕ → List ℕ) (b a n : ℕ) → ((r : ℕ) → r < a + n → length (f r) ≤ b) → length (flat_map f (range_with_len a n)) ≤ n * b
pieces_short f b a zero h = omega arith
pieces_short f b a (suc n) h =
    let first = h a (omega arith) in let rest = pieces_short f b (a + 1) n (λ r l. h r (omega arith)) in
    let both = length-append (f a) (flat_map f (range_with_len (a + 1) n)) in
    omega (arith, first, rest, both)

-- the lines of base edges, each of at most b bytes
lines_short : (f : Edge → List ℕ) (b : ℕ) → ((e : Edge) → is_base_edge e ≡ true → length (f e) ≤ b) → (es : List Edge) → list_all is_base_edge es ≡ true
    → length (flat_map f es) ≤ length es * b
lines_short f b h [] t = omega arith
lines_short f b h (e ∷ es) t =
    let s = and_parts (is_base_edge e) (list_all is_base_edge es) t in let first = h e s.0 in
    let rest = lines_short f b h es s.1 in let both = length-append (f e) (flat_map f es) in
    omega (arith, first, rest, both)

-- the lines of a base edge are at most four
places_short : (d m k : ℕ) (e : Edge) → m ≤ 4 → k < 5 → is_base_edge e ≡ true → length (place_lines d m k e) ≤ 60
places_short d m k e a b h =
    let l = pieces_short (λ r. edge_line d (edge_at m k e r)) 15 0 m (λ r l. edge_short d m k e r a b (omega arith) h) in
    let few = mul-le m 15 4 15 a (omega arith) in
    omega (arith, l, few)

edges_short : (i : ℕ) → length (edges_text i) ≤ 360
edges_short i =
    let b : base_of i < 8 = omega arith in let m : cells_of i ≤ 4 = omega arith in
    let k : shear_of i < 5 = omega arith in
    let l = lines_short (place_lines (dimension (base_of i)) (cells_of i) (shear_of i)) 60
    (λ e h. places_short (dimension (base_of i)) (cells_of i) (shear_of i) e m k h) (base_edges (base_of i)) (all_base (base_of i) b) in
    let few = mul-le (length (base_edges (base_of i))) 60 6 60 (few_base (base_of i) b) (omega arith) in
    omega (arith, l, few)

block_short : (i : ℕ) → i < most_nets → length (block_text i) ≤ 400
unfolding block_text
block_short i h =
    let n = length-decimal-le 4 i (lit< tt) (omega arith) (omega arith) in let l = edges_short i in
    simp (length-append) (omega (arith, n, l))

-- the text of as many nets as there may be
pub text_small : (n : ℕ) → n ≤ most_nets → length (workload n) ≤ most_text
text_small n h =
    let l = pieces_short block_text 400 0 n (λ r l. block_short r (omega arith)) in
    let few = mul-le n 400 most_nets 400 h (omega arith) in
    omega (arith, l, few)
