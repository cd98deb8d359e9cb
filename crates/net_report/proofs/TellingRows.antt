-- Lines of one kind, one after the other, are those of one list.
use Rattle.std.proofs.Common.{◌≡◌, ◌≢◌, ℕ, zero, suc, ◌+◌, ◌≤◌, ◌<◌, ◌⊎◌, inl, inr, ℤ, pos}
use Rattle.std.proofs.Common.{List, [], ◌∷◌, ◌++◌, length, map, refl, sym, ap, subst, ◌∙◌, arith}
use Rattle.std.proofs.lemmas.List.{append_cancel_left, append_cancel_right}
use Rattle.std.specs.Prelude.{codes, unsigned_abs}
use Rattle.std.specs.Fmt.{signed_decimal}
use mathlib.Core.List.{append_assoc}
use Rattle.integers.specs.Vectors.{Vector, parts}
use Rattle.integers.proofs.numbers.Order.{before_or_at}
use Rattle.periodic_net.specs.{Graph.Arc, Placement.base}
use Rattle.line_text.specs.Lines.{BeginsWith, HasNo}
use Rattle.line_text.specs.Numbers.{IsWide, list_text, field_text}
use Rattle.line_text.proofs.CallerLemmas.{number_has_no, same_number, sum_has_no}
use Rattle.quotient_graph.specs.PlacedNets.{PlacedNet}
use Rattle.net_report.specs.Sequences.{sizes_after, shells_text}
use Rattle.net_report.specs.Keys.{key_text}
use Rattle.net_report.specs.Identified.{sequences_text, archive_name_text, archive_names_text, found_names_text}
use Rattle.net_report.specs.Placements.{position_text, positions_text, placement_text, placement_word, denominator_text}
use Rattle.net_report.specs.Primitives.{sizes_text, basis_text, bases_text, edge_text, edges_text, primitive_text}
use Rattle.net_report.specs.Numbers.{vertex_text}
use Rattle.net_report.specs.Telling.{AreEach, IsShort}
use Rattle.net_report.specs.TellingRows.{first_byte, PrintedEdge, printed_edge, IsLegibleEdge, IsLegibleVector, IsLegiblePlacement}
use Rattle.net_report.specs.TellingRows.{IdentifiedLinesTell}
use Rattle.net_report.specs.TellingRows.{SequenceLinesTell, PlacementLinesTell, NameLinesTell, PrimitiveLinesTell}
use Rattle.net_report.proofs.TellingTexts.{IsLine, line, three_none, four_none, from_right, five_from_right}
use Rattle.net_report.proofs.TellingTexts.{same_lines, same_field, field_none, list_none, same_list_text, key_line, key_lines_tell}

module _ (X V : Type 0) (text : X → List ℕ) (value : X → V) (Good : X → Type 0) (is_line : (x : X) → Good x → IsLine (text x))
    (tells : (x y : X) → Good x → Good y → text x ≡ text y → value x ≡ value y) where
  -- the lines of all
  abbrev all : List X → List ℕ
  all [] = []
  all (x ∷ xs) = text x ++ all xs

  -- of as many
  as_many : (xs ys : List X) (s t : List ℕ) → AreEach Good xs → AreEach Good ys → length xs ≡ length ys → all xs ++ s ≡ all ys ++ t
      → (map value xs ≡ map value ys) × (s ≡ t)
  as_many [] [] s t h k n e = (refl, e)
  as_many [] (y ∷ ys) s t h k n e = absurd (omega (arith, n))
  as_many (x ∷ xs) [] s t h k n e = absurd (omega (arith, n))
  as_many (x ∷ xs) (y ∷ ys) s t h k n e =
      let r = same_lines (text x) (text y) (all xs ++ s) (all ys ++ t) (is_line x h.0) (is_line y k.0)
      (sym (append_assoc (text x) (all xs) s) ∙ e ∙ append_assoc (text y) (all ys) t) in
      let v = tells x y h.0 k.0 r.0 in let more = as_many xs ys s t h.1 k.1 (omega (arith, n)) r.1 in
      ((λ i. v i ∷ more.0 i), more.1)

  module _ (b : ℕ) (begins : (x : X) (s : List ℕ) → first_byte (text x ++ s) ≡ b) where
    begins_all : (x : X) (xs : List X) (s : List ℕ) → first_byte (all (x ∷ xs) ++ s) ≡ b
    begins_all x xs s = ap first_byte (append_assoc (text x) (all xs) s) ∙ begins x (all xs ++ s)

    -- up to if another byte begins a line
    up_to : (xs ys : List X) (s t : List ℕ) → AreEach Good xs → AreEach Good ys → first_byte s ≢ b → first_byte t ≢ b → all xs ++ s ≡ all ys ++ t
        → (map value xs ≡ map value ys) × (s ≡ t)
    up_to [] [] s t h k n m e = (refl, e)
    up_to [] (y ∷ ys) s t h k n m e = absurd (n (ap first_byte e ∙ begins_all y ys t))
    up_to (x ∷ xs) [] s t h k n m e = absurd (m (sym (ap first_byte e) ∙ begins_all x xs s))
    up_to (x ∷ xs) (y ∷ ys) s t h k n m e =
        let r = same_lines (text x) (text y) (all xs ++ s) (all ys ++ t) (is_line x h.0) (is_line y k.0)
        (sym (append_assoc (text x) (all xs) s) ∙ e ∙ append_assoc (text y) (all ys) t) in
        let v = tells x y h.0 k.0 r.0 in let more = up_to xs ys s t h.1 k.1 n m r.1 in
        ((λ i. v i ∷ more.0 i), more.1)

-- Names.

name_line : (name : List ℕ) → HasNo 10 name → IsLine (archive_name_text name)
name_line name none = record {
  front = codes "name \"" ++ name ++ codes "\"";
  none = three_none (codes "name \"") name (codes "\"") (search arith) none (refl, tt);
  is = sym (append_assoc (codes "name \"" ++ name) (codes "\"") (codes "\n"));
}

name_tells : (a b : List ℕ) → HasNo 10 a → HasNo 10 b → archive_name_text a ≡ archive_name_text b → a ≡ b
name_tells a b h k e = append_cancel_left (codes "name \"") a b (append_cancel_right (codes "name \"" ++ a) (codes "name \"" ++ b) (codes "\"\n") e)

names_all : (xs : List (List ℕ)) → archive_names_text xs ≡ all (List ℕ) (List ℕ) archive_name_text (λ x. x) (HasNo 10) name_line name_tells xs
names_all [] = refl
names_all (x ∷ xs) = ap (λ l. archive_name_text x ++ l) (names_all xs)

map_same : (xs : List (List ℕ)) → map (λ x. x) xs ≡ xs
map_same [] = refl
map_same (x ∷ xs) = ap (λ l. x ∷ l) (map_same xs)

count_line : (n : ℕ) → IsShort n → IsLine (field_text (codes "names ") n ++ codes "\n")
count_line n short = line (field_text (codes "names ") n) (field_none (codes "names ") n (search arith))

pub name_lines_tell : NameLinesTell
name_lines_tell xs ys s t h k m n e =
    let a = field_text (codes "names ") (length xs) ++ codes "\n" in let b = field_text (codes "names ") (length ys) ++ codes "\n" in
    let l = same_lines a b (archive_names_text xs ++ s) (archive_names_text ys ++ t) (count_line (length xs) m) (count_line (length ys) n)
    (sym (append_assoc a (archive_names_text xs) s) ∙ e ∙ append_assoc b (archive_names_text ys) t) in
    let count = same_field 10 (codes "names ") (length xs) (length ys) (codes "\n") (codes "\n") (omega arith) m n refl refl l.0 in
    let r = as_many (List ℕ) (List ℕ) archive_name_text (λ x. x) (HasNo 10) name_line name_tells xs ys s t h k count.0
    (ap (λ z. z ++ s) (sym (names_all xs)) ∙ l.1 ∙ ap (λ z. z ++ t) (names_all ys)) in
    (sym (map_same xs) ∙ r.0 ∙ map_same ys, r.1)

-- Positions.

module _ (names : List (List ℕ)) (p q : PlacedNet) (same : p.graph.dimension ≡ q.graph.dimension) (h : IsLegiblePlacement names p)
    (k : IsLegiblePlacement names q) where
  abbrev here : ℕ → List ℤ
  here u = parts p.graph.dimension (base p.placement u)

  abbrev there : ℕ → List ℤ
  there u = parts q.graph.dimension (base q.placement u)

  row : (names : List (List ℕ)) (n : PlacedNet) → IsLegiblePlacement names n → (u : ℕ) → IsLine (position_text names n u)
  row names n h u =
      let xs = parts n.graph.dimension (base n.placement u) in
      line (codes "at " ++ vertex_text names u ++ codes " " ++ list_text xs)
      (four_none (codes "at ") (vertex_text names u) (codes " ") (list_text xs) (search arith) (h.each u).0 (refl, tt) (list_none xs))

  same_position : (u : ℕ) → position_text names p u ≡ position_text names q u → here u ≡ there u
  same_position u e =
      let a = codes "at " ++ vertex_text names u ++ codes " " in
      same_list_text (here u) (there u) (h.each u).1 (k.each u).1
      (append_cancel_left a (list_text (here u)) (list_text (there u)) (append_cancel_right (a ++ list_text (here u)) (a ++ list_text (there u))
      (codes "\n") e))

  same_positions : (n : ℕ) (s t : List ℕ) → positions_text names p n ++ s ≡ positions_text names q n ++ t
      → ((u : ℕ) → 1 ≤ u → u ≤ n → here u ≡ there u) × (s ≡ t)
  same_positions zero s t e = ((λ u low high. absurd (omega (arith, low, high))), e)
  same_positions (suc n) s t e =
      let r = same_positions n (position_text names p (suc n) ++ s) (position_text names q (suc n) ++ t)
      (sym (append_assoc (positions_text names p n) (position_text names p (suc n)) s) ∙ e
      ∙ append_assoc (positions_text names q n) (position_text names q (suc n)) t) in
      let l = same_lines (position_text names p (suc n)) (position_text names q (suc n)) s t (row names p h (suc n)) (row names q k (suc n)) r.1 in
      ((λ u low high. by r.0 (same_position (suc n) l.0) u low (before_or_at u (suc n) (omega (arith, high)))), l.1)
    where
      by : ((u : ℕ) → 1 ≤ u → u ≤ n → here u ≡ there u) → here (suc n) ≡ there (suc n) → (u : ℕ) → 1 ≤ u → (u < suc n) ⊎ (u ≡ suc n) → here u ≡ there u
      by before last u low (inl l) = before u low (omega (arith, l))
      by before last u low (inr e) = subst (λ (v : ℕ). here v ≡ there v) (sym e) last

denominator_line : (d : ℕ) → IsWide (pos d) → IsLine (denominator_text (pos d))
unfolding placement_word
denominator_line d w = line (codes "placement D0=" ++ signed_decimal (pos d))
    (sum_has_no 10 (codes "placement D0=") (signed_decimal (pos d)) (search arith) (number_has_no 10 (omega arith) (pos d) w))

same_denominator : (d e : ℕ) → IsWide (pos d) → IsWide (pos e) → denominator_text (pos d) ≡ denominator_text (pos e) → pos d ≡ pos e
unfolding placement_word
same_denominator d e h k q = same_number (pos d) (pos e) h k (append_cancel_left (codes "placement D0=") (signed_decimal (pos d)) (signed_decimal (pos e))
    (append_cancel_right (codes "placement D0=" ++ signed_decimal (pos d)) (codes "placement D0=" ++ signed_decimal (pos e)) (codes "\n") q))

pub placement_lines_tell : PlacementLinesTell
placement_lines_tell names p q s t count same h k e =
    let a = denominator_text (pos p.placement.denominator) in let b = denominator_text (pos q.placement.denominator) in
    let l = same_lines a b (positions_text names p p.graph.vertices ++ s) (positions_text names q q.graph.vertices ++ t)
    (denominator_line p.placement.denominator h.denominator) (denominator_line q.placement.denominator k.denominator)
    (sym (append_assoc a (positions_text names p p.graph.vertices) s) ∙ e ∙ append_assoc b (positions_text names q q.graph.vertices) t) in
    let r = same_positions names p q same h k p.graph.vertices s t (l.1 ∙ ap (λ n. positions_text names q n ++ t) (sym count)) in (
      pos_same (same_denominator p.placement.denominator q.placement.denominator h.denominator k.denominator l.0),
      (λ u low high. r.0 u low high ∙ ap (λ d. parts d (base q.placement u)) (sym same)),
      r.1,
    )
  where
    pos_same : {d e : ℕ} → pos d ≡ pos e → d ≡ e
    pos_same q = ap unsigned_abs q

-- Coordination sequences.

sizes_begin : (ns : List ℕ) → BeginsWith 32 (sizes_after ns)
sizes_begin [] = tt
sizes_begin (n ∷ ns) = search arith

sizes_none : (ns : List ℕ) → AreEach IsShort ns → HasNo 10 (sizes_after ns)
sizes_none [] h = tt
sizes_none (n ∷ ns) h = sum_has_no 10 (field_text (codes " ") n) (sizes_after ns) (field_none (codes " ") n (search arith)) (sizes_none ns h.1)

same_list_of_sizes : (ms ns : List ℕ) → AreEach IsShort ms → AreEach IsShort ns → sizes_after ms ≡ sizes_after ns → ms ≡ ns
same_list_of_sizes [] [] h k e = refl
same_list_of_sizes [] (n ∷ ns) h k e = absurd (let long = ap first_byte e in omega (arith, long))
same_list_of_sizes (m ∷ ms) [] h k e = absurd (let long = ap first_byte e in omega (arith, long))
same_list_of_sizes (m ∷ ms) (n ∷ ns) h k e =
    let r = same_field 32 (codes " ") m n (sizes_after ms) (sizes_after ns) (omega arith) h.0 k.0 (sizes_begin ms) (sizes_begin ns) e in
    let more = same_list_of_sizes ms ns h.1 k.1 r.1 in λ i. r.0 i ∷ more i

shells_line : (class : ℕ) (sizes : List ℕ) → IsShort class → AreEach IsShort sizes → IsLine (shells_text class sizes)
shells_line class sizes short h =
    line (field_text (codes "shells ") class ++ sizes_after sizes)
    (sum_has_no 10 (field_text (codes "shells ") class) (sizes_after sizes) (field_none (codes "shells ") class (search arith)) (sizes_none sizes h))

pub sequence_lines_tell : SequenceLinesTell
sequence_lines_tell class [] [] s t h k c ns nt e = (refl, e)
sequence_lines_tell class [] (y ∷ ys) s t h k c ns nt e = absurd (ns (ap first_byte e))
sequence_lines_tell class (x ∷ xs) [] s t h k c ns nt e = absurd (nt (sym (ap first_byte e)))
sequence_lines_tell class (x ∷ xs) (y ∷ ys) s t h k c ns nt e =
    let short : IsShort class = omega (arith, c) in let a = field_text (codes "shells ") class in
    let r = same_lines (shells_text class x) (shells_text class y) (sequences_text (class + 1) xs ++ s) (sequences_text (class + 1) ys ++ t)
    (shells_line class x short h.0) (shells_line class y short k.0)
    (sym (append_assoc (shells_text class x) (sequences_text (class + 1) xs) s) ∙ e ∙ append_assoc (shells_text class y) (sequences_text (class + 1) ys) t) in
    let one = same_list_of_sizes x y h.0 k.0 (append_cancel_left a (sizes_after x) (sizes_after y)
    (append_cancel_right (a ++ sizes_after x) (a ++ sizes_after y) (codes "\n") r.0)) in
    let more = sequence_lines_tell (class + 1) xs ys s t h.1 k.1 (omega (arith, c)) ns nt r.1 in
    ((λ i. one i ∷ more.0 i), more.1)

-- Primitive graphs.

module _ (d : ℕ) where
  vector_line : (v : Vector) → IsLegibleVector d v → IsLine (basis_text d v)
  vector_line v w = line (codes "basis " ++ list_text (parts d v)) (sum_has_no 10 (codes "basis ") (list_text (parts d v)) (search arith)
      (list_none (parts d v)))

  vector_tells : (v w : Vector) → IsLegibleVector d v → IsLegibleVector d w → basis_text d v ≡ basis_text d w → parts d v ≡ parts d w
  vector_tells v w h k e = same_list_text (parts d v) (parts d w) h k (append_cancel_left (codes "basis ") (list_text (parts d v)) (list_text (parts d w))
      (append_cancel_right (codes "basis " ++ list_text (parts d v)) (codes "basis " ++ list_text (parts d w)) (codes "\n") e))

  bases_all : (vs : List Vector) → bases_text d vs ≡ all Vector (List ℤ) (basis_text d) (parts d) (IsLegibleVector d) vector_line vector_tells vs
  bases_all [] = refl
  bases_all (v ∷ vs) = ap (λ l. basis_text d v ++ l) (bases_all vs)

  edge_line : (e : Arc) → IsLegibleEdge d e → IsLine (edge_text d e)
  edge_line e h =
      let a = field_text (codes "edge ") e.from in let b = field_text (codes " ") e.to in
      line (a ++ b ++ codes " " ++ list_text (parts d e.shift))
      (four_none a b (codes " ") (list_text (parts d e.shift)) (field_none (codes "edge ") e.from (search arith))
      (field_none (codes " ") e.to (search arith)) (refl, tt) (list_none (parts d e.shift)))

  edge_parts : (e : Arc) → edge_text d e ≡ field_text (codes "edge ") e.from ++ (field_text (codes " ") e.to ++ (codes " " ++ (list_text
      (parts d e.shift) ++ codes "\n")))
  edge_parts e = five_from_right (field_text (codes "edge ") e.from) (field_text (codes " ") e.to) (codes " ") (list_text (parts d e.shift)) (codes "\n")

  edge_tells : (e f : Arc) → IsLegibleEdge d e → IsLegibleEdge d f → edge_text d e ≡ edge_text d f → printed_edge d e ≡ printed_edge d f
  edge_tells e f h k q =
      let a = same_field 32 (codes "edge ") e.from f.from _ _ (omega arith) h.0 k.0 refl refl (sym (edge_parts e) ∙ q ∙ edge_parts f) in
      let b = same_field 32 (codes " ") e.to f.to _ _ (omega arith) h.1 k.1 refl refl a.1 in
      let c = same_list_text (parts d e.shift) (parts d f.shift) h.2 k.2 (append_cancel_right (list_text (parts d e.shift)) (list_text
      (parts d f.shift)) (codes "\n")
      (append_cancel_left (codes " ") (list_text (parts d e.shift) ++ codes "\n") (list_text (parts d f.shift) ++ codes "\n") b.1)) in
      λ i. record { from = a.0 i; to = b.0 i; shift = c i }

  edges_all : (es : List Arc) → edges_text d es ≡ all Arc PrintedEdge (edge_text d) (printed_edge d) (IsLegibleEdge d) edge_line edge_tells es
  edges_all [] = refl
  edges_all (e ∷ es) = ap (λ l. edge_text d e ++ l) (edges_all es)

  sizes_line : (n m : ℕ) → IsShort n → IsShort m → IsLine (sizes_text n m)
  sizes_line n m h k =
      line (field_text (codes "primitive vertices=") n ++ field_text (codes " edges=") m)
      (sum_has_no 10 (field_text (codes "primitive vertices=") n) (field_text (codes " edges=") m) (field_none (codes "primitive vertices=") n (search arith))
      (field_none (codes " edges=") m (search arith)))

  same_sizes : (n m n' m' : ℕ) → IsShort n → IsShort m → IsShort n' → IsShort m' → sizes_text n m ≡ sizes_text n' m' → (n ≡ n') × (m ≡ m')
  same_sizes n m n' m' h k h' k' e =
      let a = same_field 32 (codes "primitive vertices=") n n' (field_text (codes " edges=") m ++ codes "\n") (field_text (codes " edges=") m' ++ codes "\n")
      (omega arith) h h' refl refl
      (sym (append_assoc (field_text (codes "primitive vertices=") n) (field_text (codes " edges=") m) (codes "\n")) ∙ e
      ∙ append_assoc (field_text (codes "primitive vertices=") n') (field_text (codes " edges=") m') (codes "\n")) in
      (a.0, (same_field 10 (codes " edges=") m m' (codes "\n") (codes "\n") (omega arith) k k' refl refl a.1).0)

  -- of cells in this dimension
  same_cells : (n m : ℕ) (vs ws : List Vector) (es fs : List Arc) (s t : List ℕ) → IsShort n → IsShort m → IsShort (length es) → IsShort (length fs)
      → AreEach (IsLegibleVector d) vs → AreEach (IsLegibleVector d) ws → AreEach (IsLegibleEdge d) es → AreEach (IsLegibleEdge d) fs
      → first_byte s ≢ 98 → first_byte t ≢ 98
      → (sizes_text n (length es) ++ bases_text d vs ++ edges_text d es) ++ s ≡ (sizes_text m (length fs) ++ bases_text d ws ++ edges_text d fs) ++ t
      → (n ≡ m) × (map (parts d) vs ≡ map (parts d) ws) × (map (printed_edge d) es ≡ map (printed_edge d) fs) × (s ≡ t)
  same_cells n m vs ws es fs s t hn hm he hf gv gw ge gf ns nt e =
      let a = sizes_text n (length es) in let b = sizes_text m (length fs) in
      let l = same_lines a b (bases_text d vs ++ (edges_text d es ++ s)) (bases_text d ws ++ (edges_text d fs ++ t))
      (sizes_line n (length es) hn he) (sizes_line m (length fs) hm hf)
      (sym (from_right a (bases_text d vs) (edges_text d es) s) ∙ e ∙ from_right b (bases_text d ws) (edges_text d fs) t) in
      let z = same_sizes n (length es) m (length fs) hn he hm hf l.0 in
      let v = up_to Vector (List ℤ) (basis_text d) (parts d) (IsLegibleVector d) vector_line vector_tells 98 (λ x s. refl) vs ws (edges_text d es ++ s)
      (edges_text d fs ++ t) gv gw (other es s ns) (other fs t nt)
      (ap (λ x. x ++ (edges_text d es ++ s)) (sym (bases_all vs)) ∙ l.1 ∙ ap (λ x. x ++ (edges_text d fs ++ t)) (bases_all ws)) in
      let w = as_many Arc PrintedEdge (edge_text d) (printed_edge d) (IsLegibleEdge d) edge_line edge_tells es fs s t ge gf z.1
      (ap (λ x. x ++ s) (sym (edges_all es)) ∙ v.1 ∙ ap (λ x. x ++ t) (edges_all fs)) in
      (z.0, v.0, w.0, w.1)
    where
      -- an edge begins with e, and not with b
      other : (es : List Arc) (s : List ℕ) → first_byte s ≢ 98 → first_byte (edges_text d es ++ s) ≢ 98
      other [] s n q = n q
      other (e ∷ es) s n q = omega (arith, q)

pub primitive_lines_tell : PrimitiveLinesTell
primitive_lines_tell d c e s t h k ns nt q =
    let here : primitive_text c ≡ sizes_text c.graph.vertices (length c.graph.edges) ++ bases_text d c.basis ++ edges_text d c.graph.edges =
    ap (λ n. sizes_text c.graph.vertices (length c.graph.edges) ++ bases_text n c.basis ++ edges_text n c.graph.edges) h.dimension in
    let there : primitive_text e ≡ sizes_text e.graph.vertices (length e.graph.edges) ++ bases_text d e.basis ++ edges_text d e.graph.edges =
    ap (λ n. sizes_text e.graph.vertices (length e.graph.edges) ++ bases_text n e.basis ++ edges_text n e.graph.edges) k.dimension in
    let r = same_cells d c.graph.vertices e.graph.vertices c.basis e.basis c.graph.edges e.graph.edges s t h.vertices k.vertices h.count k.count h.basis k.basis
    h.edges k.edges ns nt (ap (λ x. x ++ s) (sym here) ∙ q ∙ ap (λ x. x ++ t) there) in
    (record { vertices = r.0; basis = r.1; edges = r.2 }, r.3)

-- Nets that are identified.

pub identified_lines_tell : IdentifiedLinesTell
identified_lines_tell d vertices m n shells shells' names names' s t count h k e =
    let p = placement_text vertices m.placed in let c = primitive_text m.cell in let x = key_text m.key in let l = sequences_text 1 shells in
    let f = found_names_text names in
    let p' = placement_text vertices n.placed in let c' = primitive_text n.cell in let x' = key_text n.key in let l' = sequences_text 1 shells' in
    let f' = found_names_text names' in
    let one = placement_lines_tell vertices m.placed n.placed (c ++ (x ++ (l ++ (f ++ s)))) (c' ++ (x' ++ (l' ++ (f' ++ t)))) count
    (h.dimension ∙ sym k.dimension)
    h.placement k.placement
    (sym (append_assoc (p ++ c ++ x ++ l) f s ∙ five_from_right p c x l (f ++ s)) ∙ e ∙ append_assoc (p' ++ c' ++ x' ++ l') f' t
    ∙ five_from_right p' c' x' l' (f' ++ t)) in
    let two = primitive_lines_tell d m.cell n.cell (x ++ (l ++ (f ++ s))) (x' ++ (l' ++ (f' ++ t))) h.cell k.cell (λ q. omega (arith, q))
    (λ q. omega (arith, q)) one.2 in
    let three = same_lines x x' (l ++ (f ++ s)) (l' ++ (f' ++ t)) (key_line m.key) (key_line n.key) two.1 in
    let four = sequence_lines_tell 1 shells shells' (f ++ s) (f' ++ t) h.are_short k.are_short h.classes (λ q. omega (arith, q)) (λ q. omega
    (arith, q)) three.1 in
    let five = name_lines_tell names names' s t h.are_names k.are_names h.count k.count four.1 in (
      record {
        denominator = one.0;
        positions = λ u low high.
            subst (λ (b : ℕ). parts b (base m.placed.placement u) ≡ parts b (base n.placed.placement u)) h.dimension (one.1 u low high);
        cell = two.0;
        key = key_lines_tell m.key n.key h.key k.key three.0;
        shells_same = four.0;
        names_same = five.0;
      },
      five.1,
    )
