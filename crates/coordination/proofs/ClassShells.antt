-- A vertex has one list of sizes, and classes that are alike have the same.
use Rattle.std.proofs.Common.{◌≡◌, ◌⊎◌, inl, inr, ℕ, suc, ◌+◌, ◌<◌, ◌≤◌, List, [], ◌∷◌, length, take, get_or, sum, refl, ap, subst, ◌∙◌, arith, ◌-◌, ◌++◌}
use Rattle.std.proofs.Common.{sym, zero, map}
use Rattle.std.proofs.lemmas.List.{take_all, get_or_append_left, length_push, length-map, ext_get_or}
use Rattle.std.proofs.{lemmas.List.Sums.sum_by_more, lemmas.List.Sums.sum_by-take-le, Math.Seq.get_or-append_seam}
use Rattle.integers.proofs.lists.Members.{IsIn, AreApart, is_in, contains_from_in, apart_from_pairs, pairs_from_apart, no_longer, in_map, map_in}
use Rattle.integers.proofs.vectors.Laws.{opposite_plus, plus_opposite, opposite_dimension, zero_plus}
use Rattle.integers.specs.Vectors.{Vector, opposite, HasDimension, zero_vector, plus}
use Rattle.integers.proofs.numbers.Order.{three_ways, before_or_at}
use Rattle.periodic_net.specs.Graph.{Graph, Vertex, IsGraph, IsQuotientVertex, vertex, moved, IsVertex}
use Rattle.periodic_net.specs.Shells.{IsInShell, IsShellSize, StepsLead}
use Rattle.periodic_net.specs.Classes.{ClassGraph, IsClassNumbering, IsClassGraph}
use Rattle.periodic_net.proofs.CallerLemmas.{IsMatching, joined_moved, matching_turned, moved_vertex, walk_there, iso_matching, one_placement}
use Rattle.periodic_net.proofs.CallerLemmas.{origin_vertex}
use Rattle.periodic_net.specs.Placement.{Placement}
use Rattle.coordination.specs.Sequences.{IsShellPast, AreShellsOf, most_shells, AreFirstSequences, AreShellsOfClass, AreSequencesOf}
use Rattle.coordination.{specs.BoxSearches.AreListsOf, specs.BoxSearches.AreShellKinds, specs.Cells.HasCell, proofs.PointShells.walk_inside}
use Rattle.key_theory.specs.Kinds.{AreKinds, IsCarriedTo, kind_of}
use Rattle.key_theory.{specs.Key.Shape, specs.PrimitiveLaws.IsDivided, proofs.CallerLemmas.class_iso, proofs.CallerLemmas.primitive_is_divided}
use Rattle.quotient_graph.specs.NetClasses.{NetClasses, AreClasses, class_at}
use Rattle.primitive_cell.specs.DividedNets.{DividedNet}

-- lists that are equal place by place, as far as the first goes
beginning : (xs ys : List ℕ) → length xs ≤ length ys → ((k : ℕ) → k < length xs → get_or xs k 0 ≡ get_or ys k 0) → xs ≡ take (length xs) ys
beginning [] ys l h = refl
beginning (x ∷ xs) [] l h = absurd (omega arith)
beginning (x ∷ xs) (y ∷ ys) l h = let e = beginning xs ys (omega arith) (λ k b. h (suc k) (omega arith)) in let f = h 0 (omega arith) in λ i. f i ∷ e i

module _ (G : Graph) (w : Vertex) where
  -- members of a shell are no more than its size
  at_most : (k n : ℕ) (members : List Vertex) → AreApart members → ((x : Vertex) → IsIn members x → IsInShell G w k x) → IsShellSize G w k n
      → length members ≤ n
  at_most k n members a h s = subst (λ m. length members ≤ m) s.count (no_longer members s.members a (λ x i. is_in s.members x ((s.exact x).1 (h x i))))

  -- a size of a shell is at most any other
  size_at_most : (k m n : ℕ) → IsShellSize G w k m → IsShellSize G w k n → m ≤ n
  size_at_most k m n s t = rw s.count at (at_most k n s.members (apart_from_pairs s.members s.once) (λ x i. (s.exact x).0 (contains_from_in s.members x i)) t)

  -- a shell has one size
  pub one_size : (k m n : ℕ) → IsShellSize G w k m → IsShellSize G w k n → m ≡ n
  one_size k m n s t = let a = size_at_most k m n s t in let b = size_at_most k n m t s in omega arith

  module _ (xs ys : List ℕ) (h : AreShellsOf G w xs) (k : AreShellsOf G w ys) where
    -- the shorter list begins the longer
    begins : length xs ≤ length ys → xs ≡ take (length xs) ys
    begins l = beginning xs ys l (λ j b. one_size (j + 1) (get_or xs j 0) (get_or ys j 0) (h.each j b) (k.each j (omega arith)))

    -- the one does not end before the other
    no_shorter : length xs < length ys → ⊥
    no_shorter l = by h.ends
      where
        by : (length xs ≡ most_shells) ⊎ IsShellPast G w (length xs + 1) (sum xs) → ⊥
        by (inl e) = let f = k.few in omega arith
        by (inr p) =
            let n = length xs in let few = one_size (n + 1) p.size (get_or ys n 0) p.is_size (k.each n l) in
            let same = ap sum (begins (omega arith)) in let next = sum_by_more (λ m. m) ys n 0 l in
            let part = sum_by-take-le (λ m. m) ys (n + 1) in let within = k.within in let past = p.past in
            omega (arith, few, same, next, part, within, past)

  -- so both are one
  pub one_sequence : (xs ys : List ℕ) → AreShellsOf G w xs → AreShellsOf G w ys → xs ≡ ys
  one_sequence xs ys h k = by (three_ways (length xs) (length ys))
    where
      by : (length xs < length ys) ⊎ ((length ys < length xs) ⊎ (length xs ≡ length ys)) → xs ≡ ys
      by (inl l) = absurd (no_shorter xs ys h k l)
      by (inr (inl l)) = absurd (no_shorter ys xs k h l)
      by (inr (inr e)) = begins xs ys h k (omega arith) ∙ take_all (length xs) ys (omega arith)

-- The lists of the first classes.

-- one more list is put last
pub one_more : (K : ClassGraph) (n : ℕ) (lists more : List (List ℕ)) (sizes : List ℕ) → AreFirstSequences K n lists → AreShellsOfClass K (n + 1) sizes
    → more ≡ lists ++ sizes ∷ [] → AreFirstSequences K (n + 1) more
one_more K n lists more sizes h s e = record {
  count = ap length e ∙ length_push lists sizes ∙ ap (λ m. m + 1) h.count;
  each = λ k l. by k (before_or_at k n l);
}
  where
    by : (k : ℕ) → (k < n) ⊎ (k ≡ n) → AreShellsOfClass K (k + 1) (get_or more k [])
    by k (inl l) =
        let before : k < length lists = omega (arith, l, h.count) in
        let at = ap (λ xs. get_or xs k []) e ∙ get_or_append_left lists (sizes ∷ []) [] k before in
        subst (AreShellsOfClass K (k + 1)) (sym at) (h.each k l)
    by k (inr q) =
        let at = ap (λ xs. get_or xs k []) e ∙ ap (λ j. get_or (lists ++ sizes ∷ []) j []) (q ∙ sym h.count) ∙ get_or-append_seam lists sizes [] [] in
        subst (AreShellsOfClass K (k + 1)) (sym at) (subst (λ j. AreShellsOfClass K (j + 1) sizes) (sym q) s)

-- the classes of a net, with their class graph
abbrev pub shape_of : (c : NetClasses) → AreClasses c → Shape c.graph
shape_of c h = record { placement = h.placement; stable = h.at.stable; class_of = class_at c.numbers; classes = c.classes; is_classes = h.at.is_classes }

-- the lists of all classes are those of the graph
pub all_classes : (c : NetClasses) → IsGraph c.graph → AreClasses c → (lists : List (List ℕ)) → AreFirstSequences c.classes c.classes.count lists
    → AreSequencesOf c.graph lists
all_classes c g h lists f = record {
  shape = shape_of c h;
  count = f.count;
  each = λ w i.
      let m = h.at.is_classes.below w.over i.over in let c' = class_at c.numbers w.over in
      let same : c' ≡ c' - 1 + 1 = omega arith in
      f.each (c' - 1) (omega arith) c.graph g (shape_of c h) refl w i same;
}

-- The classes of a placed net have one numbering.

module _ (G : Graph) (p : Placement) where
  -- if two numberings agree before u, the one is not below the other at u
  not_below : (f g : ℕ → ℕ) → IsClassNumbering G p f → IsClassNumbering G p g → (u : ℕ) → IsQuotientVertex G u
      → ((v : ℕ) → v < u → IsQuotientVertex G v → f v ≡ g v) → f u < g u → ⊥
  not_below f g n m u i agree l =
      let s = m.in_order u (f u) i (n.positive u i) l in let here : f s.0 ≡ f u = agree s.0 s.1 s.2 ∙ s.3 in
      let there : g s.0 ≡ g u = (m.classes s.0 u s.2 i).1 ((n.classes s.0 u s.2 i).0 here) in
      let e : g u ≡ f u = sym there ∙ s.3 in omega (arith, e, l)

  module _ (f g : ℕ → ℕ) (n : IsClassNumbering G p f) (m : IsClassNumbering G p g) where
    agree_at : (u : ℕ) → IsQuotientVertex G u → ((v : ℕ) → v < u → IsQuotientVertex G v → f v ≡ g v) → f u ≡ g u
    agree_at u i agree = by (three_ways (f u) (g u))
      where
        by : (f u < g u) ⊎ ((g u < f u) ⊎ (f u ≡ g u)) → f u ≡ g u
        by (inl b) = absurd (not_below f g n m u i agree b)
        by (inr (inl b)) = absurd (not_below g f m n u i (λ v c j. sym (agree v c j)) b)
        by (inr (inr e)) = e

    agree_before : (k u : ℕ) → u < k → IsQuotientVertex G u → f u ≡ g u
    agree_before zero u l i = absurd (omega arith)
    agree_before (suc k) u l i = agree_at u i (λ v b j. agree_before k v (omega arith) j)

    -- the classes of a placed net have one numbering
    pub one_numbering : (u : ℕ) → IsQuotientVertex G u → f u ≡ g u
    one_numbering u i = agree_before (u + 1) u (omega arith) i

  -- of two class graphs, the one has no more classes
  pub no_more_classes : (f g : ℕ → ℕ) (K L : ClassGraph) → IsClassGraph G p f K → IsClassGraph G p g L → K.count ≤ L.count
  no_more_classes f g K L a b =
      let u = a.last in let e = sym u.2 ∙ one_numbering f g a.numbering b.numbering u.0 u.1 in
      omega (arith, e, b.below u.0 u.1)

  -- each class has a vertex
  pub class_met : (f : ℕ → ℕ) (K : ClassGraph) → IsClassGraph G p f K → (c : ℕ) → 1 ≤ c → c ≤ K.count → (u : ℕ) × IsQuotientVertex G u × (f u ≡ c)
  class_met f K a c low high = by (last c high)
    where
      last : (c : ℕ) → c ≤ K.count → (c < K.count) ⊎ (c ≡ K.count)
      last c h = grind arith

      by : (c < K.count) ⊎ (c ≡ K.count) → (u : ℕ) × IsQuotientVertex G u × (f u ≡ c)
      by (inl l) =
          let s = a.numbering.in_order a.last.0 c a.last.1 low (subst (λ n. c < n) (sym a.last.2) l) in
          (s.0, s.2, s.3)
      by (inr e) = (a.last.0, a.last.1, a.last.2 ∙ sym e)

-- Maps that undo each other and carry joined vertices to joined ones carry shells to shells.

-- a move by whole cells, and back, are such maps
pub move_matching : (G : Graph) (k : Vector) → HasDimension G.dimension k → IsMatching G G (λ w. moved w k) (λ w. moved w (opposite k))
move_matching G k d = record {
  into = λ w i. moved_vertex G w k i d;
  onto = λ w i. moved_vertex G w (opposite k) i (opposite_dimension G.dimension k d);
  back_there = λ w i. ap (vertex w.over) (plus_opposite w.cell k);
  there_back = λ w i. ap (vertex w.over) (opposite_plus w.cell k);
  there_joins = λ w x i j h. subst (λ (t : Type 0). t) (sym (joined_moved G w x k)) h;
  back_joins = λ w x i j h. subst (λ (t : Type 0). t) (sym (joined_moved G w x (opposite k))) h;
}

-- steps are carried
steps_carried : (G H : Graph) → IsGraph G → (there back : Vertex → Vertex) → IsMatching G H there back → (k : ℕ) (w x : Vertex) → IsVertex G w
    → StepsLead G k w x → StepsLead H k (there w) (there x)
steps_carried G H g there back m k w x i l = (map there l.0, length-map l.0 there ∙ l.1, walk_there G H g there back m l.0 w x i l.2)

module _ (G H : Graph) (g : IsGraph G) (h : IsGraph H) (there back : Vertex → Vertex) (m : IsMatching G H there back) (w : Vertex) (i : IsVertex G w) where
  -- steps from the image are carried back
  steps_back : (k : ℕ) (x : Vertex) → StepsLead H k (there w) x → StepsLead G k w (back x)
  steps_back k x l = rw (m.back_there w i) at (steps_carried H G h back there (matching_turned G H there back m) k (there w) x (m.into w i) l)

  -- a vertex of a shell of the image comes from one of the shell
  shell_back : (k : ℕ) (x : Vertex) → IsInShell H (there w) k x → IsInShell G w k (back x)
  shell_back k x s = record {
    reached = steps_back k x s.reached;
    no_fewer = λ j l.
        let v = walk_inside H h s.reached.0 (there w) x (m.into w i) s.reached.2 in
        s.no_fewer j (subst (StepsLead H j (there w)) (m.there_back x v) (steps_carried G H g there back m j w (back x) i l));
  }

  -- and the other way
  shell_there : (k : ℕ) (x : Vertex) → IsInShell G w k x → IsInShell H (there w) k (there x)
  shell_there k x s = record {
    reached = steps_carried G H g there back m k w x i s.reached;
    no_fewer = λ j l.
        let v = walk_inside G g s.reached.0 w x i s.reached.2 in
        s.no_fewer j (subst (StepsLead G j w) (m.back_there x v) (steps_back j (there x) l));
  }

  -- the shells of a vertex have the sizes of those of its image
  pub size_back : (k n : ℕ) → IsShellSize H (there w) k n → IsShellSize G w k n
  size_back k n s = record {
    members = map back s.members;
    exact = λ x. ((λ c. from x (in_map back s.members x (is_in (map back s.members) x c))), (λ q. contains_from_in (map back s.members) x (into x q)));
    once = pairs_from_apart (map back s.members) (apart s.members (λ x c. inside x c) (apart_from_pairs s.members s.once));
    count = length-map s.members back ∙ s.count;
  }
    where
      inside : (x : Vertex) → IsIn s.members x → IsVertex H x
      inside x c = let r = ((s.exact x).0 (contains_from_in s.members x c)).reached in walk_inside H h r.0 (there w) x (m.into w i) r.2

      from : (x : Vertex) → (y : Vertex) × IsIn s.members y × (back y ≡ x) → IsInShell G w k x
      from x r = subst (IsInShell G w k) r.2 (shell_back k r.0 ((s.exact r.0).0 (contains_from_in s.members r.0 r.1)))

      into : (x : Vertex) → IsInShell G w k x → IsIn (map back s.members) x
      into x q =
          let v = walk_inside G g q.reached.0 w x i q.reached.2 in
          rw (m.back_there x v) at (map_in back s.members (there x) (is_in s.members (there x) ((s.exact (there x)).1 (shell_there k x q))))

      apart : (xs : List Vertex) → ((x : Vertex) → IsIn xs x → IsVertex H x) → AreApart xs → AreApart (map back xs)
      apart [] v a = tt
      apart (x ∷ xs) v a = ((λ c. other (in_map back xs (back x) c)), apart xs (λ y c. v y (inr c)) a.1)
        where
          other : (y : Vertex) × IsIn xs y × (back y ≡ back x) → ⊥
          other r = a.0 (subst (IsIn xs) (sym (m.there_back r.0 (v r.0 (inr r.1))) ∙ ap there r.2 ∙ m.there_back x (v x (inl refl))) r.1)

  -- so the lists are the same
  pub sizes_back : (sizes : List ℕ) → AreShellsOf H (there w) sizes → AreShellsOf G w sizes
  sizes_back sizes s = record { each = λ k l. size_back (k + 1) _ (s.each k l); within = s.within; few = s.few; ends = by s.ends }
    where
      by : (length sizes ≡ most_shells) ⊎ IsShellPast H (there w) (length sizes + 1) (sum sizes)
          → (length sizes ≡ most_shells) ⊎ IsShellPast G w (length sizes + 1) (sum sizes)
      by (inl e) = inl e
      by (inr p) = inr (record { size = p.size; is_size = size_back (length sizes + 1) p.size p.is_size; past = p.past })

-- The lists of the vertices of a primitive graph are those of the classes.

-- a cell, moved back by itself
pub plus_back : (v : Vector) → plus v (opposite v) ≡ zero_vector
plus_back v = ap (λ (u : Vector). plus u (opposite v)) (sym (zero_plus v)) ∙ plus_opposite zero_vector v

module _ (c : NetClasses) (cell : DividedNet) (g : IsGraph c.graph) (h : HasCell c cell) where
  -- the primitive graph divides the net
  pub cell_divides : IsDivided c.graph cell.graph
  cell_divides = primitive_is_divided c.graph h.placement (class_at cell.class_of) cell.basis cell.graph g h.stable h.numbering h.primitive

  module _ (k : AreClasses c) where
    -- it has the classes of the net
    pub same_class : (u : ℕ) → IsQuotientVertex c.graph u → class_at c.numbers u ≡ class_at cell.class_of u
    same_class = one_numbering c.graph h.placement (class_at c.numbers) (class_at cell.class_of) numbering h.numbering
      where
        numbering : IsClassNumbering c.graph h.placement (class_at c.numbers)
        numbering =
            let e = one_placement c.graph g k.at.stable.connected k.placement h.placement k.at.stable.placement h.stable.placement in
            subst (λ q. IsClassNumbering c.graph q (class_at c.numbers)) e k.at.is_classes.numbering

    -- as many
    pub same_count : cell.graph.vertices ≡ c.classes.count
    same_count =
        let a = k.at.is_classes.last in let b = h.primitive.last in let low = h.primitive.below a.0 a.1 in
        let high = k.at.is_classes.below b.0 b.1 in let e = sym a.2 ∙ same_class a.0 a.1 in
        let f = sym b.2 ∙ sym (same_class b.0 b.1) in omega (arith, low, high, e, f)

    -- a vertex has the list of its class in cell 0
    pub vertex_list : (w : Vertex) → IsVertex c.graph w → (sizes : List ℕ) → AreShellsOf cell.graph (vertex (class_at c.numbers w.over) zero_vector) sizes
        → AreShellsOf c.graph w sizes
    vertex_list w i sizes l =
        let e = class_iso c.graph h.placement (class_at cell.class_of) cell.basis cell.graph g h.stable h.numbering h.primitive in
        let m = iso_matching c.graph cell.graph e.iso in let x = e.iso.there w in let v = m.into w i in
        let p = cell_divides.is_graph in let back = opposite x.cell in
        let class : class_at c.numbers w.over ≡ x.over = same_class w.over i.over ∙ e.over w i in
        let origin : moved x back ≡ vertex x.over zero_vector = ap (vertex x.over) (plus_back x.cell) in
        let here = subst (λ (y : Vertex). AreShellsOf cell.graph y sizes) (ap (λ (u : ℕ). vertex u zero_vector) class ∙ sym origin) l in
        let moved_list = sizes_back cell.graph cell.graph p p (λ y. moved y back) (λ y. moved y (opposite back))
        (move_matching cell.graph back (opposite_dimension cell.graph.dimension x.cell v.cell)) x v sizes here in
        sizes_back c.graph cell.graph g p e.iso.there e.iso.back m w i sizes moved_list

    -- the class of a vertex is a vertex of the primitive graph
    class_inside : (u : ℕ) → IsQuotientVertex c.graph u → IsQuotientVertex cell.graph (class_at c.numbers u)
    class_inside u i = (k.at.is_classes.numbering.positive u i, subst (λ (n : ℕ). class_at c.numbers u ≤ n) (sym same_count) (k.at.is_classes.below u i))

    -- so it has the list of its class
    listed : (lists : List (List ℕ)) → AreListsOf cell.graph lists → (w : Vertex) → IsVertex c.graph w
        → AreShellsOf c.graph w (get_or lists (class_at c.numbers w.over - 1) [])
    listed lists l w i =
        let j = class_inside w.over i.over in
        vertex_list w i (get_or lists (class_at c.numbers w.over - 1) []) (l.each (class_at c.numbers w.over) j j.1)

    -- so these are the sequences
    pub cell_sequences : (lists : List (List ℕ)) → AreListsOf cell.graph lists → AreSequencesOf c.graph lists
    cell_sequences lists l = record {
      shape = record { placement = k.placement; stable = k.at.stable; class_of = class_at c.numbers; classes = c.classes; is_classes = k.at.is_classes };
      count = l.count ∙ same_count;
      each = listed lists l;
    }

-- the list of a class is that of each class that is carried to it
pub list_of_carried : (K : ClassGraph) (c e : ℕ) (sizes : List ℕ) → IsCarriedTo K c e → AreShellsOfClass K e sizes → AreShellsOfClass K c sizes
list_of_carried K c e sizes k l G g h q w i n =
    let r = k G g h q w i n in let m = iso_matching G G r.0 in
    sizes_back G G g g r.0.there r.0.back m w i sizes (l G g h q (r.0.there w) (m.into w i) r.1)

module _ (c : NetClasses) (cell : DividedNet) (g : IsGraph c.graph) (h : HasCell c cell) (k : AreClasses c) (kinds : List ℕ)
    (s : AreKinds c.classes kinds) where
  -- a vertex of the primitive graph is a class
  class_here : (v : ℕ) → IsQuotientVertex cell.graph v → (1 ≤ v) × (v ≤ c.classes.count)
  class_here v i = (i.0, subst (λ (n : ℕ). v ≤ n) (same_count c cell g h k) i.1)

  -- the list of the vertex of its kind is its own
  kind_list : (v : ℕ) (sizes : List ℕ) → IsQuotientVertex cell.graph v → AreShellsOf cell.graph (vertex (kind_of kinds v) zero_vector) sizes
      → AreShellsOf cell.graph (vertex v zero_vector) sizes
  kind_list v sizes i l =
      let e = class_iso c.graph h.placement (class_at cell.class_of) cell.basis cell.graph g h.stable h.numbering h.primitive in
      let m = iso_matching c.graph cell.graph e.iso in let p = (cell_divides c cell g h).is_graph in
      let x = vertex v zero_vector in let ix = origin_vertex cell.graph v i in let w = e.iso.back x in
      let iw = m.onto x ix in
      let class : class_at c.numbers w.over ≡ v =
      same_class c cell g h k w.over iw.over ∙ e.over w iw ∙ ap (λ (y : Vertex). y.over) (m.there_back x ix) in
      let r = (s.alike v (class_here v i)).there c.graph g (shape_of c k) (λ _. c.classes) w iw class in
      let n = iso_matching c.graph c.graph r.0 in let y = r.0.there w in let iy = n.into w iw in
      let there = vertex_list c cell g h k y iy sizes (subst (λ (u : ℕ). AreShellsOf cell.graph (vertex u zero_vector) sizes) (sym r.1) l) in
      let here = sizes_back c.graph c.graph g g r.0.there r.0.back n w iw sizes there in
      sizes_back cell.graph c.graph p g e.iso.back e.iso.there (matching_turned c.graph cell.graph e.iso.there e.iso.back m) x ix sizes here

  -- so these are kinds for the primitive graph
  pub shell_kinds : AreShellKinds cell.graph kinds
  shell_kinds = record {
    count = s.count ∙ sym (same_count c cell g h k);
    positive = λ v i. (s.is_class v (class_here v i)).0;
    same = λ v sizes i j l. kind_list v sizes i l;
  }

-- A graph has one list of the sizes of the shells of its classes.

module _ (G : Graph) (g : IsGraph G) (xs ys : List (List ℕ)) (a : AreSequencesOf G xs) (b : AreSequencesOf G ys) where
  -- the placements are one
  b_classes : IsClassGraph G a.shape.placement b.shape.class_of b.shape.classes
  b_classes =
      let e = one_placement G g a.shape.stable.connected b.shape.placement a.shape.placement b.shape.stable.placement a.shape.stable.placement in
      subst (λ q. IsClassGraph G q b.shape.class_of b.shape.classes) e b.shape.is_classes

  -- and so are the counts of classes
  counts_same : a.shape.classes.count ≡ b.shape.classes.count
  counts_same =
      let l = no_more_classes G a.shape.placement a.shape.class_of b.shape.class_of a.shape.classes b.shape.classes a.shape.is_classes b_classes in
      let m = no_more_classes G a.shape.placement b.shape.class_of a.shape.class_of b.shape.classes a.shape.classes b_classes a.shape.is_classes in
      omega (arith, l, m)

  -- and the lists of a class
  same_list : (k : ℕ) → k < a.shape.classes.count → get_or xs k [] ≡ get_or ys k []
  same_list k l =
      let u = class_met G a.shape.placement a.shape.class_of a.shape.classes a.shape.is_classes (k + 1) (omega arith) (omega (arith, l)) in
      let w = vertex u.0 zero_vector in let i = origin_vertex G u.0 u.1 in
      let same = sym (one_numbering G a.shape.placement a.shape.class_of b.shape.class_of a.shape.is_classes.numbering b_classes.numbering u.0 u.1) ∙ u.2 in
      let place : k + 1 - 1 ≡ k = omega arith in
      let here = subst (λ c. AreShellsOf G w (get_or xs c [])) (ap (λ c. c - 1) u.2 ∙ place) (a.each w i) in
      let there = subst (λ c. AreShellsOf G w (get_or ys c [])) (ap (λ c. c - 1) same ∙ place) (b.each w i) in
      one_sequence G w (get_or xs k []) (get_or ys k []) here there

  -- so the lists are one
  pub one_list_of_sequences : xs ≡ ys
  one_list_of_sequences =
      ext_get_or [] xs ys (a.count ∙ counts_same ∙ sym b.count) (λ k l. same_list k (subst (λ n. k < n) a.count l))
