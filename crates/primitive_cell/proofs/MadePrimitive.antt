-- What the edges of all classes make is the primitive graph, from the first places of its numbers.
use Rattle.std.proofs.Common.{◌≡◌, ℕ, ◌≤◌, List, length, sym, subst, arith, ap, ◌∙◌, ◌↔◌, ◌+◌, ◌<◌, [], ◌∷◌, ◌++◌, get_or, ◌-◌, length-append}
use Rattle.std.{proofs.Math.Decide.dec_le, proofs.Math.Seq.get_or-append_seam, proofs.lemmas.List.get_or_append_left, specs.List.Contains}
use Prim.{Dec, yes, no}
use Rattle.periodic_net.specs.Classes.{IsClassGraph, ClassGraph, ClassArc}
use Rattle.periodic_net.specs.Graph.{Graph, IsGraph, IsQuotientVertex, arc, Arc, IsNormalSpelling}
use Rattle.periodic_net.{specs.Correspondence.IsClass, specs.Limits.IsSmall, specs.Placement.Placement, specs.Placement.IsStablePlacement}
use Rattle.periodic_net.{proofs.CallerLemmas.one_placement, proofs.CallerLemmas.flat_arcs}
use Rattle.key_theory.specs.Primitive.{IsLeastMember, Gives, IsPrimitive}
use Rattle.key_theory.{specs.PrimitiveLaws.IsDivided, proofs.CallerLemmas.primitive_is_divided}
use Rattle.quotient_graph.specs.NetClasses.{NetClasses, AreClasses, AreClassesAt, class_at, class_arc_numbers}
use Rattle.quotient_graph.specs.{PlacedNets.PlacedNet, ClassNets.arcs_of, Stars.graph_with}
use Rattle.vecdim.specs.{Stairs.Stairs, Stairs.rows_of, Lattices.Members}
use Rattle.primitive_cell.specs.PrimitiveCells.{IsTranslationLattice, IsPrimitiveCell, IsArcBelow, AreEdgesBelow}
use Rattle.primitive_cell.specs.Places.{number_at, IsPlace, AreInOrder, AreFirstPlaces, IsFirstPlace}
use Rattle.primitive_cell.specs.Given.{move_of, IsGivenBy, AreGivenEdges}
use Rattle.primitive_cell.proofs.GivenEdges.{IsCell, move_translates, gives_of, given_of, With, none_given, same_given, edge_passed, edge_added, IsArcUpTo}
use Rattle.primitive_cell.proofs.GivenEdges.{star_arc, star_starts, star_goes_on, star_rises, star_ends}
use Rattle.integers.specs.Vectors.{Vector, parts, combination, HasDimension, IsBelow}

-- The primitive cell, from the classes in memory.

-- the classes of the graph are those by its placement
pub classes_at : (N : PlacedNet) (c : NetClasses) → IsGraph N.graph → IsStablePlacement N.graph N.placement → c.graph ≡ N.graph → AreClasses c
    → AreClassesAt N.graph N.placement c.numbers c.classes c.translations
classes_at N c g s e a = by N.graph e g s
  where
    by : (G : Graph) → c.graph ≡ G → IsGraph G → IsStablePlacement G N.placement → AreClassesAt G N.placement c.numbers c.classes c.translations
    by G e = subst (λ (G : Graph). IsGraph G → IsStablePlacement G N.placement → AreClassesAt G N.placement c.numbers c.classes c.translations) e
        (λ g s.
        let q = one_placement c.graph g s.connected a.placement N.placement a.at.stable.placement s.placement in
        subst (λ (p : Placement). AreClassesAt c.graph p c.numbers c.classes c.translations) q a.at)

-- what is known of a stable net and its classes
pub record IsKnown (N : PlacedNet) (c : NetClasses) : Type 0 where
  pub graph : IsGraph N.graph
  pub small : IsSmall N.graph
  pub stable : IsStablePlacement N.graph N.placement
  pub at : AreClassesAt N.graph N.placement c.numbers c.classes c.translations

-- from what the types promise
pub known : (N : PlacedNet) (c : NetClasses) → IsGraph N.graph → IsSmall N.graph → IsStablePlacement N.graph N.placement → c.graph ≡ N.graph → AreClasses c
    → IsKnown N c
known N c g small stable same a = record { graph = g; small = small; stable = stable; at = classes_at N c g stable same a }

module _ (G : Graph) (p : Placement) (ns : List ℕ) (K : ClassGraph) (count : length ns ≡ G.vertices) (k : IsClassGraph G p (class_at ns) K) where
  -- a place is a vertex
  vertex_of : (u : ℕ) → IsPlace ns u → IsQuotientVertex G u
  vertex_of u i = (i.0, subst (λ (n : ℕ). u ≤ n) count i.1)

  -- and the other way
  place_of : (u : ℕ) → IsQuotientVertex G u → IsPlace ns u
  place_of u i = (i.0, subst (λ (n : ℕ). u ≤ n) (sym count) i.1)

  -- classes are numbered as they appear
  pub in_order : AreInOrder ns
  in_order = record {
    positive = λ u i. k.numbering.positive u (vertex_of u i);
    before = λ u n i h l. let r = k.numbering.in_order u n (vertex_of u i) h l in (r.0, r.1, place_of r.0 r.2, r.3);
  }

  module _ (us : List ℕ) (f : AreFirstPlaces ns us) where
    -- there is a first place for each class
    pub as_many : length us ≡ K.count
    as_many = by (dec_le 1 (length us))
      where
        most : K.count ≤ length us
        most = subst (λ (n : ℕ). n ≤ length us) k.last.2 (f.all k.last.0 (place_of k.last.0 k.last.1)).1

        by : Dec (1 ≤ length us) → length us ≡ K.count
        by (yes h) =
            let r = f.each (length us) (h, omega arith) in
            let b = k.below (number_at us (length us)) (vertex_of (number_at us (length us)) r.place) in
            let e = r.number in omega (arith, b, e, most)
        by (no h) = let one = k.numbering.positive k.last.0 k.last.1 in let e = k.last.2 in absurd (omega (arith, h, one, e, most))

    -- the first place of a class is its least member
    pub least_members : (c : ℕ) → IsClass K c → IsLeastMember G (class_at ns) c (number_at us c)
    least_members c i = search (arith, as_many)

-- so the primitive cell is made
pub cell_made : (d : ℕ) (N : PlacedNet) (c : NetClasses) (us : List ℕ) (S : Stairs) → IsKnown N c → AreFirstPlaces c.numbers us → IsTranslationLattice d N S
    → IsPrimitiveCell d N c us S
cell_made d N c us S k f l = search (arith, as_many, least_members)

-- What is known of a primitive cell.

module _ (d : ℕ) (N : PlacedNet) (c : NetClasses) (us : List ℕ) (S : Stairs) (p : IsPrimitiveCell d N c us S) where
  -- it is a cell of the net
  pub cell_of : IsCell N.graph N.placement (class_at c.numbers) c.classes (number_at us) (rows_of d S)
  cell_of = search arith

  -- an arc leads between classes
  pub tail_in : (b : ClassArc) → Contains c.classes.arcs b → IsClass c.classes b.from
  tail_in b h = (flat_arcs N.graph N.placement (class_at c.numbers) c.classes (record { graph = p.graph; stable = p.stable; classes = p.classes }) b h).from

  pub head_in : (b : ClassArc) → Contains c.classes.arcs b → IsClass c.classes b.to
  head_in b h = (flat_arcs N.graph N.placement (class_at c.numbers) c.classes (record { graph = p.graph; stable = p.stable; classes = p.classes }) b h).to

  -- a class has a place in the list of representatives, each of which is a vertex
  pub represented : (k : ℕ) → IsClass c.classes k → IsPlace us k × IsQuotientVertex N.graph (number_at us k)
  represented k i = ((i.0, subst (λ (n : ℕ). k ≤ n) (sym p.count) i.1), (p.representatives k i).is_vertex)

  -- the move of an arc is a member of the lattice
  pub move_in : (b : ClassArc) → Contains c.classes.arcs b → Members d S (move_of N.placement (number_at us) b)
  move_in b h =
      (p.lattice.members (move_of N.placement (number_at us) b)).1
      (move_translates N.graph N.placement (class_at c.numbers) c.classes (number_at us) (rows_of d S) cell_of b h)

  -- what has the coordinates of the move is given
  pub is_given : (b a : ClassArc) → a ≡ b → (v k : Vector) → v ≡ move_of N.placement (number_at us) b → combination (parts 3 k) (rows_of d S) ≡ v
      → HasDimension d k → IsGivenBy d N.placement (number_at us) (rows_of d S) b (arc a.from a.to k)
  is_given b a e v k m s f = record { from = ap (λ (x : ClassArc). x.from) e; to = ap (λ (x : ClassArc). x.to) e; dimension = f; shift = s ∙ m }

-- The steps by which the edges of a class are added.

module _ (d : ℕ) (N : PlacedNet) (c : NetClasses) (us : List ℕ) (S : Stairs) where
  -- in dimension n, exactly the edges that the arcs in Q give
  abbrev pub IsCollected : ℕ → (ClassArc → Type 0) → List Arc → Type 0
  IsCollected n Q es = AreGivenEdges n N.placement (number_at us) (rows_of d S) Q es

  -- in dimension n, b gives e
  abbrev pub IsGiven : ℕ → ClassArc → Arc → Type 0
  IsGiven n b e = IsGivenBy n N.placement (number_at us) (rows_of d S) b e

  module _ (p : IsPrimitiveCell d N c us S) where
    -- an edge in another spelling is passed over
    passed : (Q : ClassArc → Type 0) (es : List Arc) (b : ClassArc) (e : Arc) → IsCollected d Q es → IsGiven d b e → ¬ IsNormalSpelling e
        → IsCollected d (With Q b) es
    passed Q es b e = subst (λ (n : ℕ). IsCollected n Q es → IsGiven n b e → ¬ IsNormalSpelling e → IsCollected n (With Q b) es) p.lattice.dimension
        (λ g h other. edge_passed N.graph N.placement (class_at c.numbers) c.classes (number_at us) (rows_of d S) (cell_of d N c us S p) Q es g b e h other)

    -- an edge in normal spelling is put last
    added : (Q : ClassArc → Type 0) (es : List Arc) (b : ClassArc) (e : Arc) → IsCollected d Q es → IsGiven d b e → IsNormalSpelling e
        → ((b' : ClassArc) → Q b' → IsBelow (class_arc_numbers b') (class_arc_numbers b)) → IsCollected d (With Q b) (es ++ e ∷ [])
    added Q es b e = subst (λ (n : ℕ). IsCollected n Q es → IsGiven n b e → IsNormalSpelling e
        → ((b' : ClassArc) → Q b' → IsBelow (class_arc_numbers b') (class_arc_numbers b)) → IsCollected n (With Q b) (es ++ e ∷ [])) p.lattice.dimension
        (λ g h normal later. edge_added N.graph N.placement (class_at c.numbers) c.classes (number_at us) (rows_of d S)
        (cell_of d N c us S p) Q es g b e h normal later)

    -- no arc leads from a class below 1
    pub before_classes : AreEdgesBelow d N c us S 1 []
    before_classes = none_given d N.placement (number_at us) (rows_of d S) (IsArcBelow c.classes 1)
        (λ b h. let i = tail_in d N c us S p b h.0 in let low = i.0 in let less = h.1 in absurd (omega (arith, low, less)))

    module _ (n : ℕ) (k : IsClass c.classes n) (star : List ClassArc) (is : star ≡ arcs_of c.classes n) where
      -- an arc of the list is an arc of the class graph
      pub item_in : (i : ℕ) (b : ClassArc) → i < length star → b ≡ get_or star i b → Contains c.classes.arcs b
      item_in i b l e = (star_arc c.classes n b (subst (λ (xs : List ClassArc). Contains xs b) is (i, l, sym e))).0

      -- before the first arc
      pub class_starts : (es : List Arc) → AreEdgesBelow d N c us S n es → IsCollected d (IsArcUpTo c.classes n star 0) es
      class_starts es h = search (arith, same_given, star_starts)

      -- after an arc whose edge is in another spelling
      pub class_passes : (es : List Arc) (i : ℕ) (b : ClassArc) (e : Arc) → i < length star → b ≡ get_or star i b
          → IsCollected d (IsArcUpTo c.classes n star i) es → IsGiven d b e
          → ¬ IsNormalSpelling e → IsCollected d (IsArcUpTo c.classes n star (i + 1)) es
      class_passes es i b e l f g h other =
          same_given d N.placement (number_at us) (rows_of d S) (With (IsArcUpTo c.classes n star i) b) (IsArcUpTo c.classes n star (i + 1)) es
          (star_goes_on c.classes n star i b l f)
          (passed (IsArcUpTo c.classes n star i) es b e g h other)

      -- after an arc whose edge is in normal spelling
      pub class_adds : (es : List Arc) (i : ℕ) (b : ClassArc) (e : Arc) → i < length star → b ≡ get_or star i b
          → IsCollected d (IsArcUpTo c.classes n star i) es → IsGiven d b e
          → IsNormalSpelling e → IsCollected d (IsArcUpTo c.classes n star (i + 1)) (es ++ e ∷ [])
      class_adds es i b e l f g h normal =
          let later = rw (← is) at (star_rises c.classes n i b (p.rising n k)) in
          same_given d N.placement (number_at us) (rows_of d S) (With (IsArcUpTo c.classes n star i) b) (IsArcUpTo c.classes n star (i + 1)) (es ++ e ∷ [])
          (star_goes_on c.classes n star i b l f)
          (added (IsArcUpTo c.classes n star i) es b e g h normal (later l f))

      -- after the last arc
      pub class_ends : (es : List Arc) (i : ℕ) → length star ≤ i → IsCollected d (IsArcUpTo c.classes n star i) es → AreEdgesBelow d N c us S (n + 1) es
      class_ends es i l =
          let ends = rw (← is) at (star_ends c.classes n i) in
          same_given d N.placement (number_at us) (rows_of d S) (IsArcUpTo c.classes n star i) (IsArcBelow c.classes (n + 1)) es (ends l)

module _ (d : ℕ) (N : PlacedNet) (c : NetClasses) (us : List ℕ) (S : Stairs) (p : IsPrimitiveCell d N c us S) (es : List Arc)
    (g : AreEdgesBelow d N c us S (c.classes.count + 1) es) where
  -- the edges are what the primitive graph gives
  edges_are : (e : Arc) → Contains es e ↔ (IsNormalSpelling e × Gives N.graph N.placement (class_at c.numbers) (rows_of d S) e)
  edges_are e = (there, back)
    where
      there : Contains es e → IsNormalSpelling e × Gives N.graph N.placement (class_at c.numbers) (rows_of d S) e
      there h =
          let k = (g.exact e).0 h in let b = k.1.0 in
          let given = subst (λ (n : ℕ). IsGivenBy n N.placement (number_at us) (rows_of d S) b e) (sym p.lattice.dimension) k.1.2 in
          (k.0, gives_of N.graph N.placement (class_at c.numbers) c.classes (number_at us) (rows_of d S) (cell_of d N c us S p) b e k.1.1.0 given)

      back : IsNormalSpelling e × Gives N.graph N.placement (class_at c.numbers) (rows_of d S) e → Contains es e
      back k =
          let r = given_of N.graph N.placement (class_at c.numbers) c.classes (number_at us) (rows_of d S) (cell_of d N c us S p) e k.1 in
          let most = (tail_in d N c us S p r.0 r.1).1 in
          let given = subst (λ (n : ℕ). IsGivenBy n N.placement (number_at us) (rows_of d S) r.0 e) p.lattice.dimension r.2 in
          (g.exact e).1 (k.0, (r.0, (r.1, omega (arith, most)), given))

  -- so this is the primitive graph
  pub primitive_made : IsPrimitive N.graph N.placement (class_at c.numbers) (rows_of d S) (graph_with d c.classes.count es)
  primitive_made = search (arith, edges_are)

  -- and it is divided
  pub divided_made : IsDivided N.graph (graph_with d c.classes.count es)
  divided_made = search (arith, primitive_is_divided, primitive_made)

-- The first places of the numbers of a list, found one after the other.

-- the list us has the first places of the numbers at the first m places of ns
pub record AreFirstPlacesTo (ns : List ℕ) (m : ℕ) (us : List ℕ) : Type 0 where
  pub each : (c : ℕ) → IsPlace us c → IsFirstPlace ns c (number_at us c)
  pub all : (u : ℕ) → IsPlace ns u → u ≤ m → number_at ns u ≤ length us

-- at the end there are all
pub all_found : (ns us : List ℕ) (m : ℕ) → length ns ≤ m → AreInOrder ns → AreFirstPlacesTo ns m us → AreFirstPlaces ns us
all_found ns us m l o f = record { each = f.each; all = λ u i. (o.positive u i, f.all u i (let b = i.1 in omega arith)) }

-- the place after the first m holds the element at m
next_number : (ns : List ℕ) (m u : ℕ) → u ≡ m + 1 → number_at ns u ≡ get_or ns m 0
next_number ns m u e = ap (λ (k : ℕ). get_or ns k 0) (let s : u - 1 ≡ m = omega (arith, e) in s)

-- a number that stands before already adds nothing
pub place_passed : (ns us : List ℕ) (m : ℕ) → get_or ns m 0 ≤ length us → AreFirstPlacesTo ns m us → AreFirstPlacesTo ns (m + 1) us
place_passed ns us m h f = search (arith, dec_le)

-- a new number is one above the numbers before it
new_is_next : (ns us : List ℕ) (m : ℕ) → m < length ns → length us < get_or ns m 0 → AreInOrder ns → AreFirstPlacesTo ns m us → get_or ns m 0 ≡ length us + 1
new_is_next ns us m l h o f = by (dec_le (get_or ns m 0) (length us + 1))
  where
    here : number_at ns (m + 1) ≡ get_or ns m 0
    here = next_number ns m (m + 1) (omega arith)

    by : Dec (get_or ns m 0 ≤ length us + 1) → get_or ns m 0 ≡ length us + 1
    by (yes a) = omega (arith, a, h)
    by (no a) =
        let b = o.before (m + 1) (length us + 1) (omega arith, omega arith) (omega arith) (omega (arith, a, here)) in
        let k = f.all b.0 b.2 (let s = b.1 in omega (arith, s)) in let e = b.3 in absurd (omega (arith, k, e))

module _ (ns us : List ℕ) (m : ℕ) (l : m < length ns) (h : length us < get_or ns m 0) (o : AreInOrder ns) (f : AreFirstPlacesTo ns m us) where
  -- the list with the new place
  abbrev us' : List ℕ
  us' = us ++ (m + 1) ∷ []

  -- it has one place more
  longer : length us' ≡ length us + 1
  longer = length-append us ((m + 1) ∷ [])

  -- its last place holds m + 1
  last_place : (c : ℕ) → c ≡ length us + 1 → number_at us' c ≡ m + 1
  last_place c e = ap (λ (k : ℕ). get_or us' k 0) (let s : c - 1 ≡ length us = omega (arith, e) in s) ∙ get_or-append_seam us (m + 1) [] 0

  -- each place before holds what it held
  earlier_place : (c : ℕ) → IsPlace us c → number_at us' c ≡ number_at us c
  earlier_place c i = get_or_append_left us ((m + 1) ∷ []) 0 (c - 1) (let a = i.0 in let b = i.1 in omega (arith, a, b))

  -- the new place is the first of its number
  first_here : (c : ℕ) → c ≡ length us + 1 → IsFirstPlace ns c (m + 1)
  first_here c e = search (arith, new_is_next, dec_le)

  -- a new number adds its place
  pub place_found : AreFirstPlacesTo ns (m + 1) us'
  place_found = grind (arith, dec_le, earlier_place, longer, last_place, first_here, new_is_next)
