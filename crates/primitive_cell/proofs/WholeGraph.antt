-- Vectors, and so the lists of all classes, written in the coordinates of a staircase, that of the translations too.
use Rattle.std.proofs.Common.{◌≡◌, ◌∙◌, ◌⊎◌, inl, inr, sym, ap, ℕ, ℤ, pos, ◌*ℤ◌, [], ◌∷◌, arith, refl, suc, ◌+◌, ◌-◌, ◌<◌, ◌≤◌, List, ◌++◌, length, map}
use Rattle.std.proofs.Common.{subst, take, ◌↔◌}
use Rattle.std.proofs.lemmas.List.{get_or_append_left, get_or_push, map-append, length-append, length-map, same_lists, get_or-map, get_or_default}
use Rattle.std.proofs.lemmas.List.Elements.{All-contains, All-more, All-weaker}
use Rattle.std.specs.Prelude.{flat_map, slice_index_or, ◌==◌}
use Rattle.std.{proofs.Math.ListN.get_or, proofs.lemmas.Bool.cases_lt, proofs.lemmas.Bool.Decides.Decides-eqb, specs.List.Contains}
use Rattle.integers.specs.Vectors.{Vector, plus, times, parts, combination, triple_product, HasDimension, IsWithin, zero_vector}
use Rattle.integers.proofs.numbers.Ring.{ring, linear, factor_zero}
use Rattle.integers.proofs.vectors.Laws.{plus_zero, zero_times, plus_commutative, plus_associative, times_plus, times_zero, plus_dimension, times_dimension}
use Rattle.integers.proofs.vectors.Laws.{divided_dimension}
use Rattle.integers.proofs.lists.Members.{IsIn, contains_from_in, is_in, in_filter, all_from_in, in_pieces, map_in}
use Rattle.integers.{specs.Bases.base_sum, specs.Staircase.IsStaircase, proofs.numbers.Order.positive_is_some, proofs.numbers.Division.steps_dimension}
use Rattle.integers.{proofs.vectors.StairBasis.same_staircase}
use Rattle.key_theory.specs.Coordinates.{IsBasisOf, arc_by_basis, graph_by_basis, AreCoordinates}
use Rattle.key_theory.proofs.CallerLemmas.{coordinates_net, translations_group}
use Rattle.vecdim.specs.Stairs.{Stairs, HasStairShape, rows_of}
use Rattle.vecdim.specs.Lattices.{Members, IsWith, AreMultiples}
use Rattle.vecdim.proofs.CallerLemmas.{with_has, members_group, with_start, with_inside}
use Rattle.primitive_cell.specs.Lattices.{basis_of, IsInCoordinates, AreInCoordinates, AreWithinUnits, IsProperly, IsInside, AreInside}
use Rattle.primitive_cell.specs.PrimitiveCells.{IsTranslationLattice}
use Rattle.periodic_net.specs.Classes.{ClassGraph, ClassArc, IsTranslation, AreTranslations}
use Rattle.periodic_net.{specs.Graph.Graph, specs.Graph.IsGraph, specs.Limits.most_units, specs.Placement.Placement, specs.Placement.IsStablePlacement}
use Rattle.periodic_net.{specs.Correspondence.IsClass, specs.Correspondence.IsProperArc, proofs.CallerLemmas.translations_are_group}
use Rattle.periodic_net.{proofs.CallerLemmas.moves_are_translations}
use Rattle.quotient_graph.specs.ClassNets.{arcs_of, class_star, class_graph, HasStars, IsSmallNet, IsNetInMemory}
use Rattle.quotient_graph.{specs.NetClasses.AreClassesOf, specs.PlacedNets.PlacedNet, proofs.CallerLemmas.LeaveFrom, proofs.CallerLemmas.stars_are_arcs}

-- a combination of the rows is the sum of the basis
pub combination_is_sum : (d : ℕ) → (d ≡ 2) ⊎ (d ≡ 3) → (S : Stairs) (k : Vector) → HasDimension d k
    → combination (parts 3 k) (rows_of d S) ≡ base_sum (basis_of S) k
combination_is_sum d (inl e) S k flat =
    let b = basis_of S in let two : rows_of d S ≡ b.first ∷ b.second ∷ [] = ap (λ (n : ℕ). rows_of n S) e in
    ap (combination (parts 3 k)) two
    ∙ ap (λ (v : Vector). plus (times k.x b.first) (plus (times k.y b.second) v)) (sym (ap (λ (z : ℤ). times z b.third) (flat e) ∙ zero_times b.third))
combination_is_sum d (inr e) S k flat =
    let b = basis_of S in
    let three : rows_of d S ≡ b.first ∷ b.second ∷ b.third ∷ [] = ap (λ (n : ℕ). rows_of n S) e in
    ap (combination (parts 3 k)) three
    ∙ ap (λ (v : Vector). plus (times k.x b.first) (plus (times k.y b.second) v)) (plus_zero (times k.z b.third))

-- the product of the rows is that of the pivots
rows_product : (a b c e f i : ℤ) → triple_product (record { x = a; y = b; z = c }) (record { x = pos 0; y = e; z = f })
    (record { x = pos 0; y = pos 0; z = i }) ≡ a *ℤ (e *ℤ i)
rows_product a b c e f i = simp ring (omega (arith, linear))

-- the rows of a staircase are a basis
pub stairs_are_basis : (d : ℕ) → (d ≡ 2) ⊎ (d ≡ 3) → (S : Stairs) → HasStairShape d S → IsBasisOf d (basis_of S)
stairs_are_basis d t S h = record {
  two_or_three = t;
  independent = λ z. by (factor_zero S.first_x (S.second_y *ℤ S.third_z) (sym
      (rows_product S.first_x S.first_y S.first_z S.second_y S.second_z S.third_z) ∙ z));
  first = λ e. (h.flat e).first_z;
  second = λ e. (h.flat e).second_z;
}
  where
    by : (S.first_x ≡ pos 0) ⊎ (S.second_y *ℤ S.third_z ≡ pos 0) → ⊥
    by k = search (arith, positive_is_some, factor_zero)

-- A class graph whose lists of arcs are written in coordinates, one after the other.

-- one class more
pub one_more_written : (d : ℕ) (S : Stairs) (K : ClassGraph) (m : ℕ) (stars : List (List ClassArc)) (new : List ClassArc)
    → AreInCoordinates d S K m stars → IsInCoordinates d S (arcs_of K m) new → AreInCoordinates d S K (m + 1) (stars ++ new ∷ [])
one_more_written d S K m stars new h n = search (arith, length-append, get_or_append_left, get_or_push, cases_lt)

-- lists whose arcs leave their classes, stated by places
pub leave_from : (first : ℕ) (stars : List (List ClassArc)) → ((k : ℕ) → k < length stars → (a : ClassArc) → IsIn (slice_index_or stars k []) a
    → a.from ≡ first + k)
    → LeaveFrom first stars
leave_from first [] h = tt
leave_from first (s ∷ rest) h = (
  (λ a i. let e = h 0 (omega arith) a i in omega (arith, e)),
  leave_from (suc first) rest (λ k l a i. let e = h (suc k) (omega (arith, l)) a i in omega (arith, e)),
)

-- the images of joined lists are the joined images
pub joined_images : {X Y : Type 0} (f : X → Y) (lists : List (List X)) → map f (flat_map (λ s. s) lists) ≡ flat_map (λ s. s) (map (map f) lists)
joined_images f [] = refl
joined_images f (s ∷ rest) = map-append f s (flat_map (λ t. t) rest) ∙ ap (λ (t : List _). map f s ++ t) (joined_images f rest)

-- The arcs of a class graph whose placement is within the limits.

-- an arc has the vector of an arc of the net
short_arc : (G : Graph) (numbers : List ℕ) (K : ClassGraph) (rs : List Vector) → AreClassesOf G numbers K rs → (a : ClassArc) → Contains K.arcs a
    → IsWithin most_units a.vector
short_arc G numbers K rs h a c = let r = (h.at.is_classes.arcs a).0 c in subst (IsWithin most_units) r.2.vector (h.at.limits.arcs r.0 r.1)

-- so the arcs of a class are short
pub short_arcs : (G : Graph) (numbers : List ℕ) (K : ClassGraph) (rs : List Vector) → AreClassesOf G numbers K rs → (c : ℕ) → AreWithinUnits (arcs_of K c)
short_arcs G numbers K rs h c =
    all_from_in (λ (a : ClassArc). IsWithin most_units a.vector) (arcs_of K c)
    (λ a i. short_arc G numbers K rs h a (contains_from_in K.arcs a (in_filter (λ b. b.from == c) K.arcs a i).0))

-- the list of the class after k stands at place k
star_after : (stars : List (List ClassArc)) (k : ℕ) → class_star stars (suc k) ≡ slice_index_or stars k []
star_after stars k = let e : suc k - 1 ≡ k = omega arith in ap (λ (i : ℕ). slice_index_or stars i []) e

module _ (d : ℕ) (S : Stairs) (shape : HasStairShape d S) (L : ClassGraph) (small : IsSmallNet L) (whole : HasStars L) (dimension : L.dimension ≡ d)
    (stars : List (List ClassArc)) (written : AreInCoordinates d S L (L.count + 1) stars) where
  -- an arc with coordinates for its vector, as the arc
  abbrev spelled : ClassArc → ClassArc
  spelled = arc_by_basis (basis_of S)

  -- the class graph of the lists
  abbrev K : ClassGraph
  K = class_graph d stars

  -- as many lists as classes
  count : length stars ≡ L.count
  count = let e = written.count in omega (arith, e)

  -- the list at place k
  at_place : (k : ℕ) → k < length stars → IsInCoordinates d S (arcs_of L (suc k)) (slice_index_or stars k [])
  at_place k l = search (arith, star_after)

  -- it spells the list of L
  list_spelled : (k : ℕ) → k < length stars → map spelled (slice_index_or stars k []) ≡ slice_index_or whole.stars k []
  list_spelled k l =
      let c = count in
      (at_place k l).same ∙ sym (whole.each (suc k) (omega arith, omega (arith, l, c))) ∙ star_after whole.stars k

  -- as many lists as L has
  lists_count : length stars ≡ length whole.stars
  lists_count = count ∙ sym (ap (λ (M : ClassGraph). M.count) whole.same)

  -- so all lists do
  lists_spelled : map (map spelled) stars ≡ whole.stars
  lists_spelled =
      same_lists (map (map spelled) stars) whole.stars (length-map stars (map spelled) ∙ lists_count)
      (λ k e l.
      let m : k < length stars = subst (λ (n : ℕ). k < n) (length-map stars (map spelled)) l in
      get_or-map (map spelled) stars k [] e m ∙ list_spelled k m ∙ get_or_default whole.stars k [] e (subst (λ (n : ℕ). k < n) lists_count m))

  -- and the class graph is L in coordinates
  spells : graph_by_basis (basis_of S) K ≡ L
  spells = search (arith, joined_images, lists_spelled)

  -- an arc of a list is one of its class, with a proper vector
  record IsPlaced (k : ℕ) (a : ClassArc) : Type 0 where
    from : a.from ≡ suc k
    proper : IsProperly d a

  placed : (k : ℕ) → k < length stars → (a : ClassArc) → IsIn (slice_index_or stars k []) a → IsPlaced k a
  placed k l a i =
      let w = at_place k l in let star = slice_index_or stars k [] in
      let image = subst (λ (xs : List ClassArc). IsIn xs (spelled a)) w.same (map_in spelled star a i) in
      record {
        from = (Decides-eqb a.from (suc k)).0 (in_filter (λ b. b.from == suc k) L.arcs (spelled a) image).1;
        proper = All-contains (IsProperly d) star a w.proper (contains_from_in star a i);
      }

  -- each arc of the class graph stands in a list
  each_placed : (a : ClassArc) → Contains K.arcs a → (k : ℕ) × (k < length stars) × IsPlaced k a
  each_placed a c =
      let r = in_pieces (λ s. s) stars a (is_in K.arcs a c) in let p = contains_from_in stars r.0 r.1 in
      let same = get_or_default stars p.0 [] r.0 p.1 ∙ p.2 in
      (p.0, p.1, placed p.0 p.1 a (subst (λ (s : List ClassArc). IsIn s a) (sym same) r.2))

  -- it leads between classes, since what it spells does, by a vector of the dimension
  proper_arc : (a : ClassArc) → Contains K.arcs a → IsProperArc K a
  proper_arc a c =
      let image = subst (λ (M : ClassGraph). Contains M.arcs (spelled a)) spells
      (contains_from_in (map spelled K.arcs) (spelled a) (map_in spelled K.arcs a (is_in K.arcs a c))) in
      let p = small.net.balanced.arcs (spelled a) image in
      let inside = λ (n : ℕ) (i : IsClass L n). subst (λ (m : ℕ). (1 ≤ n) × (n ≤ m)) (sym count) i in
      record { from = inside a.from p.from; to = inside a.to p.to; vector = (each_placed a c).2.proper.dimension }

  -- the class graph of the lists is L in coordinates
  pub are_coordinates : AreCoordinates K L
  are_coordinates = record {
    basis = basis_of S;
    is_basis = stairs_are_basis d (subst (λ (n : ℕ). (n ≡ 2) ⊎ (n ≡ 3)) dimension small.net.balanced.two_or_three) S shape;
    proper = proper_arc;
    same = spells;
  }

  -- as many arcs as L
  arcs_count : length K.arcs ≡ length L.arcs
  arcs_count = sym (length-map K.arcs spelled) ∙ ap (λ (M : ClassGraph). length M.arcs) spells

  -- so the lists are a class graph in memory
  pub is_net_in_memory : IsNetInMemory d stars
  is_net_in_memory =
      let n = count in let m = arcs_count in let few = small.few in let few_arcs = small.few_arcs in
      record {
        small = record {
          net = coordinates_net K L are_coordinates small.net;
          few = omega (arith, n, few);
          few_arcs = omega (arith, m, few_arcs);
          within = λ a c. (each_placed a c).2.proper.within;
        };
        each = λ c i. stars_are_arcs stars (leave_from 1 stars (λ k l a j. let e = (placed k l a j).from in omega (arith, e))) c i.0 i.1;
      }

-- The multiples of the denominator D and the translations with parts from 0 to D - 1 generate all translations: so the
-- staircase that they make is that of the translations.

-- Members of a lattice to which a vector is added.

-- the vector that is added is a member
pub vector_added : (d : ℕ) (S T : Stairs) (v : Vector) → IsWith (Members d S) (v ∷ []) (Members d T) → Members d T v
vector_added d S T v a = with_has (Members d S) (Members d T) (v ∷ []) a (members_group d S).zero v (inl refl)

-- arcs inside a lattice are inside one with more members
pub more_inside : (d : ℕ) (S T : Stairs) → ((w : Vector) → Members d S w → Members d T w) → (arcs : List ClassArc) → AreInside d S arcs → AreInside d T arcs
more_inside d S T h = All-weaker (IsInside d S) (IsInside d T) (λ a. h a.vector)

-- so it is when the vector of one more arc is added
pub one_more_inside : (d : ℕ) (S T : Stairs) (arcs : List ClassArc) (i : ℕ) (e : ClassArc) → i < length arcs
    → IsWith (Members d S) ((get_or arcs i e).vector ∷ []) (Members d T) → AreInside d S (take i arcs) → AreInside d T (take (i + 1) arcs)
one_more_inside d S T arcs i e l a h =
    let v = (get_or arcs i e).vector in
    All-more (IsInside d T) arcs i e l (more_inside d S T (with_start (Members d S) (Members d T) (v ∷ []) a) (take i arcs) h) (vector_added d S T v a)

module _ (G : Graph) (p : Placement) (g : IsGraph G) (s : IsStablePlacement G p) (rs : List Vector) (t : AreTranslations G p rs) (L M : Vector → Type 0)
    (flat : (w : Vector) → L w → HasDimension G.dimension w) (m : AreMultiples G.dimension (pos p.denominator) L) (a : IsWith L rs M) where
  -- the multiples of D are translations
  multiple_in : (w : Vector) → L w → IsTranslation G p w
  multiple_in w i =
      let r = (m w (flat w i)).0 i in
      let d = divided_dimension G.dimension p.denominator s.placement.barycentric.positive r.0 (subst (HasDimension G.dimension) r.1 (flat w i)) in
      subst (IsTranslation G p) (sym r.1) (translations_are_group.shifts G p s.no_collision r.0 d)

  -- so what is made is a translation
  made_translation : (w : Vector) → M w → IsTranslation G p w
  made_translation = with_inside L M (IsTranslation G p) rs a (translations_group G p s) multiple_in (λ v i. ((t.exact v).0 (contains_from_in rs v i)).0)

  -- 0 is a multiple
  zero_in : L zero_vector
  zero_in = (m zero_vector (λ e. refl)).1 (zero_vector, sym (times_zero (pos p.denominator)))

  -- each translation is made
  translation_made : (v : Vector) → IsTranslation G p v → M v
  translation_made v k =
      let D = pos p.denominator in let b = moves_are_translations.rest G p g s v k in
      let listed = is_in rs b.0 ((t.exact b.0).1 (b.1, record { dimension = b.1.dimension; low = b.2.low; high = b.2.high })) in
      let o = a.out b.0 (with_has L M rs a zero_in b.0 listed) in
      let x = (m o.u (flat o.u o.member)).0 o.member in
      let dx = divided_dimension G.dimension p.denominator s.placement.barycentric.positive x.0 (subst (HasDimension G.dimension) x.1 (flat o.u o.member)) in
      let y = plus b.2.steps x.0 in
      let dy = plus_dimension G.dimension b.2.steps x.0 (steps_dimension G.dimension D v b.0 k.dimension b.2) dx in
      let u = times D y in let u_in = (m u (times_dimension G.dimension D y dy)).1 (y, λ i. u) in
      let first : v ≡ plus (times D b.2.steps) b.0 = b.2.is ∙ plus_commutative b.0 (times D b.2.steps) in
      let second : plus (times D b.2.steps) b.0 ≡ plus (times D b.2.steps) (plus (times D x.0) (combination o.ks rs)) =
      ap (plus (times D b.2.steps)) (o.sum ∙ ap (λ (w : Vector). plus w (combination o.ks rs)) x.1) in
      let third = sym (plus_associative (times D b.2.steps) (times D x.0) (combination o.ks rs))
      ∙ ap (λ (w : Vector). plus w (combination o.ks rs)) (sym (times_plus D b.2.steps x.0)) in
      a.into v (record { u = u; member = u_in; ks = o.ks; sum = first ∙ second ∙ third })

  -- so the members of what is made are the translations
  pub made_are_translations : (v : Vector) → M v ↔ IsTranslation G p v
  made_are_translations v = (made_translation v, translation_made v)

module _ (N : PlacedNet) (g : IsGraph N.graph) (s : IsStablePlacement N.graph N.placement) (rs : List Vector) (t : AreTranslations N.graph N.placement rs)
    (S T : Stairs) where
  -- from the multiples of z, in dimension d
  abbrev Made : ℕ → ℤ → Type 0
  Made d z = AreMultiples d z (Members d S) → IsWith (Members d S) rs (Members d T) → IsStaircase (Members d T) d (rows_of d T) → IsTranslationLattice d N T

  -- from those of the denominator, in the dimension of the net
  made : Made N.graph.dimension (pos N.placement.denominator)
  made m a h =
      let d = N.graph.dimension in
      let same = made_are_translations N.graph N.placement g s rs t (Members d S) (Members d T) (λ w i. i.1) m a in
      record { dimension = refl; members = same; basis = same_staircase (Members d T) (IsTranslation N.graph N.placement) same d (rows_of d T) h }

  -- so the staircase that is made is the lattice of the translations
  pub lattice_made : (d : ℕ) (z : ℤ) → N.graph.dimension ≡ d → z ≡ pos N.placement.denominator → Made d z
  lattice_made d z e f = subst (λ (x : ℤ). Made d x) (sym f) (subst (λ (x : ℕ). Made x (pos N.placement.denominator)) e made)

-- A dimension of 2 or 3.

-- is at least 2
pub at_least_two : (d : ℕ) → (d ≡ 2) ⊎ (d ≡ 3) → 2 ≤ d
at_least_two d h = omega arith

-- and at most 3
pub at_most_three : (d : ℕ) → (d ≡ 2) ⊎ (d ≡ 3) → d ≤ 3
at_most_three d h = omega arith
