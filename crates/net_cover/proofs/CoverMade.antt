-- The edges that all edges give at all remainders, in any order, are those of the cover, also as it is made in memory.
use Rattle.std.proofs.Common.{◌≡◌, ◌⊎◌, inl, inr, ℕ, ◌+◌, ◌*◌, ◌/◌, ◌%◌, ◌<◌, ◌≤◌, List, [], ◌∷◌, ◌++◌, get_or, refl, sym, ap, subst, ◌∙◌}
use Rattle.std.proofs.Common.{arith, length-append, ◌≢◌, length, ℤ, pos}
use Rattle.std.proofs.lemmas.Nat.{div-mul-add, mod-mul-add, mul-add-lt, div_below}
use Rattle.std.proofs.lemmas.List.Sorted.{All-permutation, length_permutation, IsPermutation-sym, IsPermutation-refl}
use Rattle.std.proofs.{lemmas.Bool.cases_order, Math.Decide.dec_lt, Math.Seq.get_or-append_seam, lemmas.List.get_or_append_left}
use Rattle.std.proofs.{lemmas.List.get_or_default, lemmas.List.Elements.All-append}
use Rattle.std.specs.List.{All, AllPairs, Contains}
use Rattle.std.specs.Prelude.{unsigned_abs, ◌≤ℤ◌, ◌<ℤ◌}
use Rattle.std.specs.List.Sorted.{IsPermutation}
use Prim.{Dec, yes, no}
use Rattle.integers.specs.Vectors.{Vector, zero_vector, opposite, IsWithin, HasDimension, plus, minus}
use Rattle.integers.specs.Bases.{Base, base_sum}
use Rattle.integers.proofs.{vectors.Bounds.abs_negative, vectors.Laws.opposite_dimension, vectors.Laws.plus_minus, lists.Permutations.permuted_pairs}
use Rattle.periodic_net.specs.Graph.{Arc, arc, Graph, IsGraph, IsEdge, IsQuotientVertex}
use Rattle.periodic_net.specs.Limits.{most_shift, most_vertices, IsSmall, most_edges}
use Rattle.sublattice.specs.Sublattices.{IsSublattice, index_of, IsCombination}
use Rattle.sublattice.specs.Remainders.{HasNumber, remainder_with}
use Rattle.vecdim.specs.Stairs.{Stairs, size_of, HasStairShape, IsRemainder}
use Rattle.net_cover.specs.Covers.{edge_at, IsGivenAt, IsNewShift, AreGiven, IsGiven, IsCover, number_in_cover, LeadsTo, IsLift, Spells}
use Rattle.net_cover.specs.declared.faults.CoverFault.TheVariants.{CoverShift, NoMemory}
use Rattle.net_cover.specs.Cells.{IsLatticeOfCell, CellView, IsWritten, index_in}
use Rattle.net_cover.specs.Lifting.{TellsPart, TellsLift, TellsEdge, TellsFirst, CanLift}
use Rattle.net_cover.specs.Faults.{IsCoverFault, FitsEdges, AreShiftsWithin, LiftsWithin}
use Rattle.net_cover.specs.{UnitCells.IsCell, declared.faults.CoverFault.CoverFault}
use Rattle.sublattice.proofs.CallerLemmas.{factors_small, remainders_numbered}
use Rattle.quotient_graph.specs.Stars.{IsInOrder, graph_with}
use Rattle.net_cover.proofs.CoverNet.{HasVertices, given_once, given_tells, shift_once, some_place, number_inside, lift_point}

-- The list of the edges that edges give, at its places.

-- the opposite of what is within a limit is
opposite_within : (n : ℕ) (v : Vector) → IsWithin n (opposite v) → IsWithin n v
opposite_within n v h = (rw (abs_negative v.x) at h.0, rw (abs_negative v.y) at h.1, rw (abs_negative v.z) at h.2)

module _ (d : ℕ) (b : Base) (S : Stairs) (es : List Arc) where
  -- at first there are none
  pub none_given : AreGiven d b S es 0 []
  none_given = record { length_is = refl; each = λ t l. absurd (omega (arith, l)); small = λ k e l. absurd (omega (arith, l)) }

  -- one more
  pub one_given : (count m i : ℕ) (given : List Arc) (e : Arc) → i < size_of S → count ≡ m * size_of S + i → AreGiven d b S es count given
      → IsGivenAt d b S (edge_at es m) i e
      → IsWithin most_shift e.shift → AreGiven d b S es (count + 1) (given ++ e ∷ [])
  one_given count m i given e l is h g small = record {
    length_is = length-append given (e ∷ []) ∙ (let q = h.length_is in omega (arith, q));
    each = λ t k. at t k (dec_lt t count);
    small = All-append (λ a. IsWithin most_shift a.shift) given (e ∷ []) h.small one;
  }
    where
      one : All (λ (a : Arc). IsWithin most_shift a.shift) (e ∷ [])
      one h l p = grind arith

      quotient : count / size_of S ≡ m
      quotient = ap (λ (x : ℕ). x / size_of S) is ∙ div-mul-add m (size_of S) i l

      rest : count % size_of S ≡ i
      rest = ap (λ (x : ℕ). x % size_of S) is ∙ mod-mul-add m (size_of S) i l

      last : get_or (given ++ e ∷ []) count (arc 0 0 zero_vector) ≡ e
      last = ap (λ (n : ℕ). get_or (given ++ e ∷ []) n (arc 0 0 zero_vector)) (sym h.length_is) ∙ get_or-append_seam given e [] (arc 0 0 zero_vector)

      at : (t : ℕ) → t < count + 1 → Dec (t < count) → IsGivenAt d b S (edge_at es (t / size_of S)) (t % size_of S) (edge_at (given ++ e ∷ []) t)
      at t k (yes a) =
          rw (get_or_append_left given (e ∷ []) (arc 0 0 zero_vector) t (let q = h.length_is in omega (arith, a, q))) (h.each t a)
      at t k (no a) =
          let s : count ≡ t = omega (arith, a, k) in
          let p : IsGivenAt d b S (edge_at es (count / size_of S)) (count % size_of S) (edge_at (given ++ e ∷ []) count) = rw (last, rest, quotient) g in
          subst (λ (x : ℕ). IsGivenAt d b S (edge_at es (x / size_of S)) (x % size_of S) (edge_at (given ++ e ∷ []) x)) s p

  -- what the list has at the place of an edge and a remainder
  pub given_at : (count : ℕ) (given : List Arc) (m i : ℕ) → AreGiven d b S es count given → i < size_of S → m * size_of S + i < count
      → IsGivenAt d b S (edge_at es m) i (edge_at given (m * size_of S + i))
  given_at count given m i h l k =
      subst (λ (x : ℕ). IsGivenAt d b S (edge_at es m) x (edge_at given (m * size_of S + i))) (mod-mul-add m (size_of S) i l)
      (rw (div-mul-add m (size_of S) i l) at (h.each (m * size_of S + i) k))

  -- the shifts of the lifts of edges that gave theirs are within the limit
  pub given_within : (d ≡ 2) ⊎ (d ≡ 3) → IsCell d b → IsSublattice d b S → (count : ℕ) (given : List Arc) (m i : ℕ) → AreGiven d b S es count given
      → i < size_of S
      → m * size_of S + i < count → (k : Vector) → IsNewShift d b S (edge_at es m) i k → IsWithin most_shift k
  given_within dim c r count given m i h l below k s =
      let t = m * size_of S + i in let g = given_at count given m i h l below in
      let small = h.small t (arc 0 0 zero_vector) (let q = h.length_is in omega (arith, below, q)) in
      let own : IsWithin most_shift g.0.shift = elim g.2.1 [
        | inl e ↦ subst (λ (a : Arc). IsWithin most_shift a.shift) e small
        | inr e ↦ opposite_within most_shift g.0.shift (subst (λ (a : Arc). IsWithin most_shift a.shift) e small)
      ] in
      subst (IsWithin most_shift) (shift_once d b S dim c r (edge_at es m) i g.0.shift k (g.1.0, g.1.1.leads) s) own

-- a permutation has the same members
same_members : (xs ys : List Arc) → IsPermutation xs ys → (e : Arc) → Contains ys e → Contains xs e
same_members xs ys p e c = subst (Contains xs) c.2 (All-permutation (Contains xs) xs ys p (λ k d l. (k, l, get_or_default xs k (get_or xs k d) d l)) c.0 e c.1)

-- quotient and remainder determine a number
told_by_parts : (s t n : ℕ) → 1 ≤ n → s / n ≡ t / n → s % n ≡ t % n → s ≡ t
told_by_parts s t n h e f = search arith

module _ (G : Graph) (b : Base) (S : Stairs) (ls fs : List Arc) (g : IsGraph G) (c : IsCell G.dimension b) (h : IsSublattice G.dimension b S)
    (a : AreGiven G.dimension b S G.edges (length G.edges * size_of S) ls) (p : IsPermutation ls fs) where
  abbrev n : ℕ
  n = size_of S

  abbrev C : Graph
  C = record { dimension = G.dimension; vertices = G.vertices * n; edges = fs }

  -- there is a remainder
  some_remainder : 1 ≤ n
  some_remainder = let q = some_place G.dimension b S h zero_vector (λ e. refl) in let l = q.1 in omega (arith, l)

  -- the edge of a place of the list
  edge_of_place : (t : ℕ) → t < length G.edges * n → t / n < length G.edges
  edge_of_place t l = div_below t n (length G.edges) (let s = some_remainder in omega (arith, s)) l

  -- it is an edge of the graph
  is_edge : (m : ℕ) → m < length G.edges → IsEdge G (edge_at G.edges m)
  is_edge m l = g.edges m (arc 0 0 zero_vector) l

  edge_in : (m : ℕ) → m < length G.edges → Contains G.edges (edge_at G.edges m)
  edge_in m l = (m, l, get_or_default G.edges m (edge_at G.edges m) (arc 0 0 zero_vector) l)

  has_vertices : (e : Arc) → IsEdge G e → HasVertices e
  has_vertices e i = record { from = i.from.0; to = i.to.0 }

  -- what the list has is given
  listed_given : (e : Arc) → Contains ls e → IsGiven G b S e
  listed_given e q =
      let t = q.0 in let l : t < length G.edges * n = subst (λ (x : ℕ). t < x) a.length_is q.1 in
      let m = edge_of_place t l in
      let is : edge_at ls t ≡ e = get_or_default ls t (arc 0 0 zero_vector) e q.1 ∙ q.2 in
      (edge_at G.edges (t / n), t % n, edge_in (t / n) m, subst (IsGivenAt G.dimension b S (edge_at G.edges (t / n)) (t % n)) is (a.each t l))

  -- and what is given it has
  given_listed : (e : Arc) → IsGiven G b S e → Contains ls e
  given_listed e q =
      let m = q.2.0 in let i = q.1 in let place : i < n = q.3.1.1.leads.start in
      let l : m * n + i < length G.edges * n = let r = mul-add-lt m n i (length G.edges) q.2.1 place in let s : n * length G.edges ≡ length G.edges * n =
      omega arith in omega (arith, r, s) in
      let is : edge_at G.edges m ≡ q.0 = get_or_default G.edges m (arc 0 0 zero_vector) q.0 q.2.1 ∙ q.2.2 in
      let at : IsGivenAt G.dimension b S q.0 i (edge_at ls (m * n + i)) =
      rw is at (given_at G.dimension b S G.edges (length G.edges * n) ls m i a place l) in
      let inside : m * n + i < length ls = subst (λ (x : ℕ). m * n + i < x) (sym a.length_is) l in (
        m * n + i,
        inside,
        get_or_default ls (m * n + i) e (arc 0 0 zero_vector) inside
            ∙ given_once G.dimension b S g.dimension c h q.0 i (edge_at ls (m * n + i)) e at q.3,
      )

  -- the edges of the graph are determined by their places
  edge_once : (k m : ℕ) → k < length G.edges → m < length G.edges → edge_at G.edges k ≡ edge_at G.edges m → k ≡ m
  edge_once k m i j e = grind (arith, cases_order)

  -- no edge stands twice in the list
  listed_apart : AllPairs (λ e f. e ≢ f) ls
  listed_apart s t d below last same =
      let lt : t < length G.edges * n = subst (λ (x : ℕ). t < x) a.length_is last in
      let ls' : s < length G.edges * n = omega (arith, below, lt) in let ms = edge_of_place s ls' in
      let mt = edge_of_place t lt in let es = is_edge (s / n) ms in let et = is_edge (t / n) mt in
      let eq : edge_at ls s ≡ edge_at ls t =
      get_or_default ls s (arc 0 0 zero_vector) d (subst (λ (x : ℕ). s < x) (sym a.length_is) ls') ∙ same
      ∙ sym (get_or_default ls t (arc 0 0 zero_vector) d last) in
      let r = given_tells G.dimension b S (edge_at G.edges (s / n)) (edge_at G.edges (t / n)) (s % n) (t % n) (edge_at ls t)
      (has_vertices (edge_at G.edges (s / n)) es)
      (has_vertices (edge_at G.edges (t / n)) et) es.spelling et.spelling
      (subst (IsGivenAt G.dimension b S (edge_at G.edges (s / n)) (s % n)) eq (a.each s ls')) (a.each t lt) in
      let e = told_by_parts s t n some_remainder (edge_once (s / n) (t / n) ms mt r.0) r.1 in
      omega (arith, e, below)

  -- what is given is an edge between the vertices of the cover
  given_edge : (e : Arc) → IsGiven G b S e → IsEdge C e
  given_edge e q =
      let t = q.3.1.1 in let inside = subst (IsEdge G) q.2.2 (g.edges q.2.0 q.0 q.2.1) in
      let from = number_inside n G.vertices q.0.from q.1 inside.from.0 inside.from.1 t.leads.start in
      let to = number_inside n G.vertices q.0.to q.3.1.0 inside.to.0 inside.to.1 t.leads.end in
      let f : IsQuotientVertex C q.3.0.from = subst (IsQuotientVertex C) (sym t.from) from in
      let o : IsQuotientVertex C q.3.0.to = subst (IsQuotientVertex C) (sym t.to) to in
      elim q.3.2.1 [
        | inl s ↦ record {
          from = subst (λ (x : Arc). IsQuotientVertex C x.from) (sym s) f;
          to = subst (λ (x : Arc). IsQuotientVertex C x.to) (sym s) o;
          shift = subst (λ (x : Arc). HasDimension G.dimension x.shift) (sym s) t.leads.dimension;
          spelling = q.3.2.0;
        }
        | inr s ↦ record {
          from = subst (λ (x : Arc). IsQuotientVertex C x.from) (sym s) o;
          to = subst (λ (x : Arc). IsQuotientVertex C x.to) (sym s) f;
          shift = subst (λ (x : Arc). HasDimension G.dimension x.shift) (sym s) (opposite_dimension G.dimension q.3.0.shift t.leads.dimension);
          spelling = q.3.2.0;
        }
      ]

  -- the edges of the cover
  cover_edges : All (IsEdge C) fs
  cover_edges k d l = given_edge (get_or fs k d) (listed_given (get_or fs k d)
      (same_members ls fs p (get_or fs k d) (k, l, get_or_default fs k (get_or fs k d) d l)))

  -- so this graph is the cover
  pub cover_made : IsCover G b C
  cover_made = record {
    lattice = S;
    is_lattice = h;
    is_graph = record {
      dimension = g.dimension;
      vertices = let s = some_remainder in let q = mul-add-lt 0 n 0 G.vertices (let v = g.vertices in omega (arith, v)) (omega (arith, s)) in
          let r : n * G.vertices ≡ G.vertices * n = omega arith in omega (arith, q, r);
      edges = cover_edges;
      different = permuted_pairs ls fs p listed_apart;
    };
    dimension = refl;
    vertices = refl;
    edges = λ e. (
      (λ q. listed_given e (same_members ls fs p e q)),
      (λ q. same_members fs ls (IsPermutation-sym ls fs p) e (given_listed e q)),
    );
    count = length_permutation ls fs p ∙ a.length_is;
  }

-- The lift of an edge, from what the steps find.

-- a number from 0 to below a small one is small
part_small : (n : ℕ) (z a : ℤ) → pos 0 ≤ℤ z → z <ℤ a → unsigned_abs a ≤ n → unsigned_abs z ≤ n
part_small n z a k p q = search arith

-- a remainder of a lattice with few is small
pub remainder_small : (n d : ℕ) (S : Stairs) (r : Vector) → HasStairShape d S → size_of S ≤ n → IsRemainder d S r → IsWithin n r
remainder_small n d S r s l h =
    let f = factors_small n S s.reduced l in
    (part_small n r.x S.first_x h.low.0 h.high.0 f.0, part_small n r.y S.second_y h.low.1 h.high.1 f.1, part_small n r.z S.third_z h.low.2 h.high.2 f.2)

module _ (d : ℕ) (b : Base) (S : Stairs) (h : IsLatticeOfCell d b S) where
  -- so many remainders
  pub few : size_of S ≤ most_vertices
  few = subst (λ (n : ℕ). n ≤ most_vertices) (sym h.lattice.size) h.few

  module _ (target : Vector) (j : ℕ) (n : HasNumber d S target j) where
    -- the remainder with the number of the remainder of the end
    rest_is : remainder_with S j ≡ n.r
    rest_is = ap (remainder_with S) n.is ∙ (remainders_numbered d S h.lattice.stair).there n.r n.remainder.remainder

    -- what is left is a combination of the rows
    pub left_combination : IsCombination d b (minus target (remainder_with S j))
    left_combination =
        let m = n.remainder.difference in
        subst (λ (r : Vector). IsCombination d b (minus target r)) (sym rest_is) ((h.lattice.members (minus target n.r) m.1).0 m.0)

  module _ (a : Arc) (i j : ℕ) (target k : Vector) (start : i < index_of d b) (end : j < size_of S) (to : target ≡ plus (remainder_with S i) a.shift)
      (flat : HasDimension d k) (sum : minus target (remainder_with S j) ≡ base_sum b k) where
    -- its coefficients are the new shift
    pub leads : LeadsTo d b S a i j k
    leads = record {
      start = subst (λ (n : ℕ). i < n) (sym h.lattice.size) start;
      end = end;
      dimension = flat;
      shift = sym to ∙ sym (plus_minus (remainder_with S j) target) ∙ ap (plus (remainder_with S j)) sum;
    }

  -- the edge with the new shift, between the numbers of its ends, is the lift
  pub lift_made : (a : Arc) (i j : ℕ) (k : Vector) → LeadsTo d b S a i j k → (n u v : ℕ) (s : Vector) → n ≡ index_of d b
      → u ≡ number_in_cover n a.from i → v ≡ number_in_cover n a.to j → s ≡ k → IsLift d b S a i (arc u v s)
  lift_made a i j k leads n u v s en eu ev es =
      let c : n ≡ size_of S = en ∙ sym h.lattice.size in (
        j,
        record {
          from = eu ∙ ap (λ (x : ℕ). number_in_cover x a.from i) c;
          to = ev ∙ ap (λ (x : ℕ). number_in_cover x a.to j) c;
          leads = subst (LeadsTo d b S a i j) (sym es) leads;
        },
      )

-- what reports the first wide part of the new shift reports it of the lift
pub part_tells : (d : ℕ) (b : Base) (S : Stairs) (a : Arc) (i : ℕ) (k : Vector) → IsNewShift d b S a i k → (f : CoverFault) → TellsPart k f
    → TellsLift d b S a i f
part_tells d b S a i k s (CoverShift y) h = record { k = k; shift = s; j = h.0; wide = h.1 }
part_tells d b S a i k s f h = absurd h

-- The steps by which the edges of a cover are listed.

-- the edge that was read at a place
pub edge_read : (es : List Arc) (m : ℕ) (e : Arc) → m < length es → e ≡ get_or es m e → e ≡ edge_at es m
edge_read es m e l is = is ∙ get_or_default es m e (arc 0 0 zero_vector) l

-- the lift of what may be lifted is no loop with shift 0
pub lifted_no_point : (d : ℕ) (b : Base) (S : Stairs) (a : Arc) (i : ℕ) (e : Arc) → CanLift d a → IsLift d b S a i e → e.from ≡ e.to → e.shift ≡ zero_vector → ⊥
lifted_no_point d b S a i e c l same none = let p = lift_point d b S a i e c.from.0 c.to.0 l same none in c.no_point p.0 p.1

module _ (d : ℕ) (b : Base) (S : Stairs) (h : IsLatticeOfCell d b S) (es : List Arc) (index : ℕ) (ei : index ≡ index_of d b) where
  as_many : index ≡ size_of S
  as_many = ei ∙ sym h.lattice.size

  -- one edge more
  pub one_more : (m i : ℕ) (given : List Arc) (l e : Arc) → i < index → AreGiven d b S es (m * index + i) given → IsLift d b S (edge_at es m) i l → Spells l e
      → IsWithin most_shift e.shift → AreGiven d b S es (m * index + (i + 1)) (given ++ e ∷ [])
  one_more m i given l e k g f s small =
      let count : m * index + i + 1 ≡ m * index + (i + 1) = omega arith in
      rw count at (one_given d b S es (m * index + i) m i given e (subst (λ (n : ℕ). i < n) as_many k) (ap (λ (n : ℕ). m * n + i) as_many) g (l, f, s) small)

  -- what is reported of a lift is reported of the edge
  pub edge_tells : (m i : ℕ) (given : List Arc) → i < index → AreGiven d b S es (m * index + i) given → (f : CoverFault) → TellsLift d b S (edge_at es m) i f
      → TellsEdge d b S es m f
  edge_tells m i given k g (CoverShift y) t = record {
    i = i;
    place = subst (λ (n : ℕ). i < n) as_many k;
    wide = t;
    before = λ j l. given_within d b S es h.dimension h.cell h.lattice (m * index + i) given m j g (subst (λ (n : ℕ). j < n) as_many (omega (arith, l, k)))
        (subst (λ (n : ℕ). m * n + j < m * index + i) as_many (omega (arith, l)));
  }
  edge_tells m i given k g f t = absurd t

  -- what is reported of an edge is reported of all
  pub first_tells : (m : ℕ) (given : List Arc) → m < length es → AreGiven d b S es (m * index) given → (f : CoverFault) → TellsEdge d b S es m f
      → TellsFirst d b S es f
  first_tells m given k g (CoverShift y) t = (
    m,
    k,
    t,
    λ n j l q. given_within d b S es h.dimension h.cell h.lattice (m * index) given n j g q
        (rw as_many (let p = mul-add-lt n (size_of S) j m l q in let e : size_of S * m ≡ m * size_of S = omega arith in omega (arith, p, e))),
  )
  first_tells m given k g NoMemory t = t
  first_tells m given k g f t = absurd t

-- the index of a cell of the graph's dimension
index_same : (G : Graph) (R : CellView) → FitsEdges G R → index_in R ≡ index_of G.dimension R.rows
index_same G R f = ap (λ (d : ℕ). index_of d R.rows) f.0.0.0

-- edges and a number of vertices, as they are made from a graph and a cell that it fits
pub record AreMade (G : Graph) (R : CellView) (S : Stairs) (es : List Arc) (index n : ℕ) : Type 0 where
  pub is_graph : IsGraph G
  pub fits : FitsEdges G R
  pub lattice : IsLatticeOfCell G.dimension R.rows S
  pub index_is : index ≡ index_of G.dimension R.rows
  pub given : AreGiven G.dimension R.rows S G.edges (length G.edges * index) es
  pub count_is : n ≡ G.vertices * index

module _ {G : Graph} {R : CellView} {S : Stairs} {es : List Arc} {index n : ℕ} (made : AreMade G R S es index n) where
  -- the list is whole
  whole : AreGiven G.dimension R.rows S G.edges (length G.edges * size_of S) es
  whole = subst (λ (n : ℕ). AreGiven G.dimension R.rows S G.edges (length G.edges * n) es) (made.index_is ∙ sym made.lattice.lattice.size) made.given

  -- so many vertices
  vertices_are : n ≡ G.vertices * size_of S
  vertices_are = made.count_is ∙ ap (λ (m : ℕ). G.vertices * m) (made.index_is ∙ sym made.lattice.lattice.size)

  -- the edges that are given, in any order, are a graph
  pub given_graph : IsGraph (graph_with G.dimension n es)
  given_graph = rw vertices_are (cover_made G R.rows S es es made.is_graph made.lattice.cell made.lattice.lattice whole (IsPermutation-refl es)).is_graph

  same_index : index_in R ≡ index
  same_index = index_same G R made.fits ∙ sym made.index_is

  -- within the limits
  pub given_small : IsSmall (graph_with G.dimension n es)
  given_small = record {
    vertices = subst (λ (m : ℕ). m ≤ most_vertices) (ap (λ (m : ℕ). G.vertices * m) same_index ∙ sym made.count_is) made.fits.0.1;
    edges = subst (λ (m : ℕ). m ≤ most_edges) (ap (λ (m : ℕ). length G.edges * m) same_index ∙ sym made.given.length_is) made.fits.1;
    shifts = made.given.small;
  }

  -- and in order they are the cover
  pub given_cover : (H : Graph) → IsInOrder (graph_with G.dimension n es) H → IsCover G R.rows H
  given_cover H o =
      subst (IsCover G R.rows) (λ i. graph_with (back o.dimension i) ((sym vertices_are ∙ back o.vertices) i) H.edges)
      (cover_made G R.rows S es H.edges made.is_graph made.lattice.cell made.lattice.lattice whole o.edges)
    where
      back : {x y : ℕ} → x ≡ y → y ≡ x
      back e = sym e

  -- the new shifts are within the limit
  pub given_within_limit : AreShiftsWithin G R.rows
  given_within_limit = record {
    lattice = S;
    is_lattice = made.lattice.lattice;
    within = λ m j l k. given_within G.dimension R.rows S G.edges made.lattice.dimension made.lattice.cell made.lattice.lattice
        (length G.edges * size_of S) es m j whole k (below m j l k);
  }
    where
      below : (m j : ℕ) → m < length G.edges → j < size_of S → m * size_of S + j < length G.edges * size_of S
      below m j l k =
          let n = size_of S in let p = mul-add-lt m n j (length G.edges) l k in
          let e : n * length G.edges ≡ length G.edges * n = omega arith in omega (arith, p, e)

-- what reports the first wide part is the fault of the cell
pub wide_fault : (G : Graph) (R : CellView) (S : Stairs) → IsLatticeOfCell G.dimension R.rows S → FitsEdges G R → (f : CoverFault)
    → TellsFirst G.dimension R.rows S G.edges f → IsCoverFault G R f
wide_fault G R S h e (CoverShift y) t = (
  e,
  record {
    lattice = S;
    is_lattice = h.lattice;
    m = t.0;
    i = t.2.i;
    edge = t.1;
    place = t.2.place;
    wide = t.2.wide;
    before = λ n j o l. elim o [ inl k ↦ t.3 n j k l | inr k ↦ at n j k.0 k.1 ];
  },
)
  where
    at : (n j : ℕ) → n ≡ t.0 → j < t.2.i → LiftsWithin G.dimension R.rows S (edge_at G.edges n) j
    at n j s l = subst (λ (m : ℕ). LiftsWithin G.dimension R.rows S (edge_at G.edges m) j) (sym s) (t.2.before j l)
wide_fault G R S h e NoMemory t = t
wide_fault G R S h e f t = absurd t

-- a cell that fits a graph is one
pub cell_fits : (G : Graph) (R : CellView) → FitsEdges G R → IsWritten R → IsCell G.dimension R.rows
cell_fits G R f w = grind arith

-- the index is no more than the number of vertices
pub index_few : (n i : ℕ) → 1 ≤ n → n * i ≤ most_vertices → i ≤ most_vertices
index_few n i k p = search arith

-- the lattice of a cell that fits a graph
pub cell_lattice : (G : Graph) (R : CellView) (d : ℕ) (S : Stairs) → IsGraph G → G.dimension ≡ d → FitsEdges G R → IsWritten R → IsSublattice d R.rows S
    → IsLatticeOfCell G.dimension R.rows S
cell_lattice G R d S g e f w s = record {
  dimension = g.dimension;
  cell = cell_fits G R f w;
  lattice = subst (λ (n : ℕ). IsSublattice n R.rows S) (sym e) s;
  few = index_few G.vertices (index_of G.dimension R.rows) g.vertices (subst (λ (n : ℕ). G.vertices * n ≤ most_vertices) (index_same G R f) f.0.1);
}

-- what is given, said of the graph
pub given_of : (G : Graph) (b : Base) (d : ℕ) (es : List Arc) → G.dimension ≡ d → es ≡ G.edges → (S : Stairs) (index : ℕ) (ls : List Arc)
    → AreGiven d b S es (length es * index) ls → AreGiven G.dimension b S G.edges (length G.edges * index) ls
given_of G b d es e h S index ls a = grind arith

-- what reports the first wide part, the same
pub told_of : (G : Graph) (b : Base) (d : ℕ) (es : List Arc) → G.dimension ≡ d → es ≡ G.edges → (S : Stairs) (f : CoverFault) → TellsFirst d b S es f
    → TellsFirst G.dimension b S G.edges f
told_of G b d es e h S t a = subst (λ (n : ℕ). TellsFirst n b S G.edges t) (sym e) (subst (λ (xs : List Arc). TellsFirst d b S xs t) h a)
