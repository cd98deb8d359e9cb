-- The edges between the vertices that were found generate the shifts of the closed walks: their lattice, and splits by it.
use Rattle.std.proofs.Common.{◌≡◌, ℕ, zero, suc, ◌+◌, ◌-◌, ◌<◌, ◌≤◌, List, [], ◌∷◌, ◌++◌, length, take, map, get_or, Bool, true, false, Option, None, All}
use Rattle.std.proofs.Common.{sym, ap, subst, ◌∙◌, arith, IsSome, refl, cond, Some, inl, inr, pos, Contains, ℤ, neg_ℤ, ◌+ℤ◌, ◌*ℤ◌, ◌-ℤ◌, ◌≢◌, ◌≤ℤ◌}
use Rattle.std.proofs.Common.{unsigned_abs, ◌⊎◌}
use Rattle.std.proofs.lemmas.List.{get_or_default, take_all, length-map, get_or-map}
use Rattle.std.proofs.lemmas.List.Elements.{All-append, recursion_from_All, All-from_recursion, All-contains}
use Rattle.std.{proofs.lemmas.Int.ints, specs.Option.is_some, specs.List.filter, specs.List.AllByRecursion}
use Rattle.integers.specs.Vectors.{Vector, IsWithin, zero_vector, minus, dot, vector, plus, times, triple_product, HasDimension, cross}
use Rattle.integers.proofs.lists.Members.{images_more, images_same, all_in, filter_in, contains_from_in, IsIn, in_from_contains}
use Rattle.integers.proofs.numbers.Ring.{ring, linear, other_factor_zero}
use Rattle.integers.proofs.vectors.Laws.{dot_plus, vector_equal, product_times}
use Rattle.integers.{specs.Lattices.IsVectorGroup, proofs.vectors.Independence.cramer, proofs.vectors.Independence.products}
use Rattle.integers.{proofs.vectors.StairBasis.times_in}
use Rattle.integers.proofs.vectors.Independence.{flat_triple}
use Rattle.periodic_net.specs.Graph.{Graph, Arc, IsGraph, Vertex, vertex, arc, IsWalk, IsQuotientVertex, arcs, IsArc, IsConnected}
use Rattle.periodic_net.specs.Split.{IsFound, ClosedShift, WalkShift, IsPartSplit, entry, IsOrthogonal, IsFlatSplit}
use Rattle.periodic_net.proofs.CallerLemmas.{arc_inside, edge_in, closed_generated, generator_closed, with_itself, IsTree, one_vertex, walk_dimension}
use Rattle.periodic_net.proofs.CallerLemmas.{closed_difference, closed_group, connected_by_tree}
use Rattle.periodic_net.specs.{Limits.IsSmall, Limits.most_shift, Components.InComponent, Components.TellsWalks}
use Rattle.connected_dim.specs.Search.{walk_to, AreWalks, shift_of}
use Rattle.connected_dim.specs.Generators.{generator_of, generators, shift_at}
use Rattle.connected_dim.{specs.Orthogonal.IsOrthogonalTo, specs.Orthogonal.IsFlatNormal, specs.Quotient.part_colour, specs.Quotient.part_colouring}
use Rattle.connected_dim.{specs.Lattices.IsLatticeOf, specs.Lattices.AreClosedWalks, specs.Flat.flat_colour, specs.Flat.flat_colouring, specs.Full.IsVolume}
use Rattle.connected_dim.{proofs.Starting.no_some, proofs.Starting.some_value, proofs.Normals.sign_of}
use Rattle.vecdim.proofs.CallerLemmas.{with_has, with_inside, members_group, all_members}
use Rattle.vecdim.specs.{Stairs.Stairs, Stairs.IsWhole, Lattices.Members}

-- The closed walks of the edges, one edge more.

-- where an edge stands
pub record IsReady (found : List (Option Vector)) (e : Arc) : Type 0 where
  pub from : (1 ≤ e.from) × (e.from ≤ length found)
  pub to : (1 ≤ e.to) × (e.to ≤ length found)
  pub shift : IsWithin most_shift e.shift

pub edge_ready : (G : Graph) (found : List (Option Vector)) (row : List Arc) (i : ℕ) (e : Arc) → IsGraph G → IsSmall G → length found ≡ G.vertices
    → row ≡ G.edges → i < length row → e ≡ get_or row i e → IsReady found e
edge_ready G found row i e g s count same l at = grind arith

-- whether the tail was found
pub tail_is : (found : List (Option Vector)) (e : Arc) (k : ℕ) (o : Option Vector) (b : Bool) → IsReady found e → k ≡ e.from → o ≡ get_or found (k - 1) o
    → is_some o ≡ b → is_some (walk_to found e.from) ≡ b
tail_is found e k o b r f at is = search (arith, get_or_default)

-- an edge from a found vertex
pub walks_more : (found : List (Option Vector)) (row : List Arc) (i : ℕ) (e : Arc) (ws next : List Vector) (v : Vector) → i < length row → e ≡ get_or row i e
    → is_some (walk_to found e.from) ≡ true → v ≡ generator_of found e → next ≡ ws ++ v ∷ []
    → ws ≡ map (generator_of found) (filter (λ e. is_some (walk_to found e.from)) (take i row))
    → next ≡ map (generator_of found) (filter (λ e. is_some (walk_to found e.from)) (take (i + 1) row))
walks_more found row i e ws next v l at t is longer made =
    longer ∙ (λ j. made j ++ is j ∷ []) ∙ sym (images_more (generator_of found) (λ e. is_some (walk_to found e.from)) row i e l (sym at) t)

-- another edge
pub walks_same : (found : List (Option Vector)) (row : List Arc) (i : ℕ) (e : Arc) (ws next : List Vector) → i < length row → e ≡ get_or row i e
    → is_some (walk_to found e.from) ≡ false → next ≡ ws
    → ws ≡ map (generator_of found) (filter (λ e. is_some (walk_to found e.from)) (take i row))
    → next ≡ map (generator_of found) (filter (λ e. is_some (walk_to found e.from)) (take (i + 1) row))
walks_same found row i e ws next l at t same made = search (arith, images_same)

-- all edges
pub walks_all : (G : Graph) (found : List (Option Vector)) (row : List Arc) (i : ℕ) (ws : List Vector) → row ≡ G.edges → length row ≤ i
    → ws ≡ map (generator_of found) (filter (λ e. is_some (walk_to found e.from)) (take i row)) → ws ≡ generators G found
walks_all G found row i ws same l made = search (arith, take_all)

-- what holds of a list and of one vector more
pub all_more : (P : Vector → Type 0) (ws : List Vector) (v : Vector) → All P ws → P v → All P (ws ++ v ∷ [])
all_more P ws v h p = All-append P ws (v ∷ []) h one
  where
    one : (k : ℕ) (w : Vector) → k < 1 → P (get_or (v ∷ []) k w)
    one k w h = search arith

-- Each vertex that a walk from the start leads to was found.

module _ (G : Graph) (g : IsGraph G) (a : ℕ) (found : List (Option Vector)) (h : AreWalks G a found) where
  -- a walk from a found vertex ends over a found one
  walk_found : (steps : List Vertex) (w x : Vertex) → 1 ≤ w.over → IsSome (walk_to found w.over) → IsWalk G w steps x → IsSome (walk_to found x.over)
  walk_found [] w x low some walk = subst (λ (y : Vertex). IsSome (walk_to found y.over)) walk some
  walk_found (y ∷ ys) w x low some walk =
      let e = arc w.over y.over (minus y.cell w.cell) in
      walk_found ys y x (arc_inside G g e walk.0).to.0 (h.closed w.over low some e walk.0 refl) walk.1

  -- so what a walk leads to was found
  pub all_found : 1 ≤ a → (u : ℕ) → IsFound G a u → IsSome (walk_to found u)
  all_found low u f = let w = f.1 in walk_found w.0 (vertex a zero_vector) (vertex u f.0) low (subst IsSome (sym h.first) refl) w.1

-- what holds of the images
image_all : {A B : Type 0} (L : B → Type 0) (f : A → B) (xs : List A) → AllByRecursion L (map f xs) → AllByRecursion (λ x. L (f x)) xs
image_all L f [] h = tt
image_all L f (x ∷ xs) h = (h.0, image_all L f xs h.1)

-- the walk that was found, if one was
pub walk_is : (o : Option Vector) → IsSome o → o ≡ Some (shift_of o)
walk_is o k = search arith

-- what is found stands inside the list
some_inside : (found : List (Option Vector)) (k : ℕ) → IsSome (get_or found k None) → k < length found
some_inside [] k h = cc
some_inside (o ∷ found) zero h = omega arith
some_inside (o ∷ found) (suc k) h = let l = some_inside found k h in omega (arith, l)

module _ (G : Graph) (g : IsGraph G) (a : ℕ) (found : List (Option Vector)) (h : AreWalks G a found) where
  -- a walk leads to each vertex that was found
  pub walk_at : (u : ℕ) → 1 ≤ u → IsSome (walk_to found u) → WalkShift G a u (shift_at found u)
  walk_at u low some = h.walks u (shift_at found u) low (walk_is (walk_to found u) some)

  -- the vertices that were found are those of the component
  found_in : (u : ℕ) → IsQuotientVertex G u → IsSome (walk_to found u) → InComponent G a u
  found_in u q some = record { vertex = q; shift = shift_at found u; walk = walk_at u q.0 some }

  -- the start is a vertex
  start_in : 1 ≤ a → IsQuotientVertex G a
  start_in low =
      let l = some_inside found (a - 1) (subst IsSome (sym h.first) refl) in let n = h.count in
      (low, omega (arith, low, l, n))

  -- so the walks that were found determine the component
  tells : 1 ≤ a → TellsWalks G a (shift_at found)
  tells low = record { start = ap shift_of h.first; walks = λ u i. walk_at u i.vertex.0 (all_found G g a found h low u (i.shift, i.walk)) }

  -- the generators are closed walks
  pub generators_closed : 1 ≤ a → All (ClosedShift G a) (generators G found)
  generators_closed low = All-from_recursion (ClosedShift G a) (generators G found)
      (of_edges G.edges (λ e i. contains_from_in (arcs G) e (edge_in G.edges e i)))
    where
      of_edges : (es : List Arc) → ((e : Arc) → IsIn es e → IsArc G e) → AllByRecursion (ClosedShift G a)
          (map (generator_of found) (filter (λ e. is_some (walk_to found e.from)) es))
      of_edges [] within = tt
      of_edges (e ∷ es) within = by (is_some (walk_to found e.from)) refl (of_edges es (λ f i. within f (inr i)))
        where
          by : (b : Bool) → is_some (walk_to found e.from) ≡ b → AllByRecursion (ClosedShift G a)
              (map (generator_of found) (filter (λ e. is_some (walk_to found e.from)) es))
              → AllByRecursion (ClosedShift G a) (map (generator_of found)
              (cond b (e ∷ filter (λ e. is_some (walk_to found e.from)) es) (filter (λ e. is_some (walk_to found e.from)) es)))
          by true t r =
              let i = within e (inl refl) in
              (generator_closed G g a (shift_at found) (tells low) e i (found_in e.from (arc_inside G g e i).from t), r)
          by false t r = r

  -- a list that has the generators has that of each edge from a found vertex
  of_edge : (L : Vector → Type 0) → All L (generators G found) → (e : Arc) → IsIn G.edges e → IsSome (walk_to found e.from) → L (generator_of found e)
  of_edge L gens e i some =
      all_in (λ f. L (generator_of found f)) (filter (λ f. is_some (walk_to found f.from)) G.edges) e
      (image_all L (generator_of found) (filter (λ f. is_some (walk_to found f.from)) G.edges) (recursion_from_All L (generators G found) gens))
      (filter_in (λ f. is_some (walk_to found f.from)) G.edges e i some)

  -- a group that has the generators has the shift of each closed walk
  pub closed_in : (L : Vector → Type 0) → IsVectorGroup L → All L (generators G found) → 1 ≤ a → (v : Vector) → ClosedShift G a v → L v
  closed_in L l gens low =
      closed_generated G g a (shift_at found) (tells low) L l (λ e i w. of_edge L gens e i (all_found G g a found h low e.from (w.shift, w.walk)))
      (with_itself G a (start_in low))

-- If a walk was found to each vertex.

module _ (G : Graph) (g : IsGraph G) (found : List (Option Vector)) (h : AreWalks G 1 found) (all : All IsSome found) where
  -- each vertex has a walk
  pub some_walk : (u : ℕ) → IsQuotientVertex G u → IsSome (walk_to found u)
  some_walk u v = let count = h.count in let low = v.0 in let high = v.1 in all (u - 1) None (omega arith)

  -- so each is found
  pub each_found : (u : ℕ) → IsQuotientVertex G u → IsFound G 1 u
  each_found u v = (shift_at found u, walk_at G g 1 found h u v.0 (some_walk u v))

  -- and the walks are a tree
  pub is_tree : IsTree G (shift_at found)
  is_tree = record {
    root = ap shift_of h.first;
    walk = λ u v. walk_at G g 1 found h u v.0 (some_walk u v);
    dimension = λ u v. walk_dimension G g 1 u (shift_at found u) (one_vertex G g) (walk_at G g 1 found h u v.0 (some_walk u v));
  }

  -- the closed walk of an edge is one
  pub edge_closed : (row : List Arc) (i : ℕ) (e : Arc) → row ≡ G.edges → i < length row → e ≡ get_or row i e → ClosedShift G 1 (generator_of found e)
  edge_closed row i e same l at =
      let there = subst (λ (es : List Arc). IsIn es e) same (in_from_contains row e i l (sym at)) in
      let is : IsArc G e = contains_from_in (arcs G) e (edge_in G.edges e there) in let from = (arc_inside G g e is).from in
      generator_closed G g 1 (shift_at found) (tells G g 1 found h (omega arith)) e is (found_in G g 1 found h e.from from (some_walk e.from from))

-- The vertices that a walk from vertex 1 leads to, and the colouring of the two parts.

-- the entry of a vertex
entry_is : (found : List (Option Vector)) (k : ℕ) → k < length found → get_or (map part_colour found) k (pos 0) ≡ part_colour (get_or found k None)
entry_is found k l = get_or-map part_colour found k None (pos 0) l

none_of : (o : Option Vector) → ¬ IsSome o → o ≡ None
none_of o k = search arith

-- the colouring of the found vertices and the others
pub part_split_is : (G : Graph) (found : List (Option Vector)) → IsGraph G → AreWalks G 1 found → Contains found None → IsPartSplit G (part_colouring found)
part_split_is G found g h missed = record {
  q = refl;
  c = refl;
  count = length-map found part_colour ∙ h.count;
  found = λ u v f. let s = some_value (walk_to found u) (all_found G g 1 found h (omega arith) u f) in at u v ∙ ap part_colour s.1;
  elsewhere = λ u v n. at u v ∙ ap part_colour (none_of (walk_to found u) (λ s. let w = some_value (walk_to found u) s in n (w.0, h.walks u w.0 v.0 w.1)));
  missed = (
    missed.0 + 1,
    (omega arith, subst (λ n. missed.0 + 1 ≤ n) h.count (omega (arith, missed.1))),
    λ f. no_some (walk_to found (missed.0 + 1)) (ap (λ (k : ℕ). get_or found k None) (less missed.0) ∙ missed.2)
        (all_found G g 1 found h (omega arith) (missed.0 + 1) f),
  );
}
  where
    less : (k : ℕ) → (k + 1) - 1 ≡ k
    less k = omega arith

    at : (u : ℕ) → IsQuotientVertex G u → entry (map part_colour found) u ≡ part_colour (walk_to found u)
    at u v = let n = h.count in let low = v.0 in let high = v.1 in entry_is found (u - 1) (omega arith)

-- What is orthogonal to the generators is orthogonal to each closed walk.

-- the product with an opposite
dot_opposite : (c1 c2 c3 v1 v2 v3 : ℤ) → c1 *ℤ neg_ℤ v1 +ℤ c2 *ℤ neg_ℤ v2 +ℤ c3 *ℤ neg_ℤ v3 ≡ neg_ℤ (c1 *ℤ v1 +ℤ c2 *ℤ v2 +ℤ c3 *ℤ v3)
dot_opposite c1 c2 c3 v1 v2 v3 = simp ring (omega (arith, linear))

-- the product with 0
dot_none : (c1 c2 c3 : ℤ) → c1 *ℤ pos 0 +ℤ c2 *ℤ pos 0 +ℤ c3 *ℤ pos 0 ≡ pos 0
dot_none c1 c2 c3 = simp ring (omega (arith, linear))

-- the vectors that c is orthogonal to
pub orthogonal_group : (c : Vector) → IsVectorGroup (λ v. dot c v ≡ pos 0)
orthogonal_group c = grind (arith, dot_none, dot_plus, dot_opposite)

-- so c is orthogonal to the closed walks
pub orthogonal_closed : (G : Graph) (a : ℕ) (found : List (Option Vector)) (c : Vector) → IsGraph G → 1 ≤ a → AreWalks G a found
    → IsOrthogonalTo (generators G found) c
    → (v : Vector) → ClosedShift G a v → dot c v ≡ pos 0
orthogonal_closed G a found c g low h o v k = closed_in G g a found h (λ v. dot c v ≡ pos 0) (orthogonal_group c) o low v k

-- vectors whose difference c is orthogonal to have equal products
same_dot : (c1 c2 c3 s1 s2 s3 t1 t2 t3 : ℤ) → c1 *ℤ (s1 -ℤ t1) +ℤ c2 *ℤ (s2 -ℤ t2) +ℤ c3 *ℤ (s3 -ℤ t3) ≡ pos 0
    → c1 *ℤ s1 +ℤ c2 *ℤ s2 +ℤ c3 *ℤ s3 ≡ c1 *ℤ t1 +ℤ c2 *ℤ t2 +ℤ c3 *ℤ t3
same_dot c1 c2 c3 s1 s2 s3 t1 t2 t3 e = omega (arith, linear, simp ring at e)

-- the colouring by a normal
pub flat_split_is : (G : Graph) (found : List (Option Vector)) (c : Vector) → IsGraph G → AreWalks G 1 found → All IsSome found
    → IsFlatNormal G.dimension (generators G found) c
    → IsFlatSplit G (flat_colouring c found)
flat_split_is G found c g w all n = record {
  found = each_found G g found w all;
  q = refl;
  dimension = n.dimension;
  orthogonal = closed;
  positive = n.positive;
  lowest = λ e k d o some ends. n.lowest e k d (λ j v l. o (get_or (generators G found) j v) (generators_closed G g 1 found w (omega arith) j v l)) some ends;
  coprime = n.coprime;
  count = length-map found (flat_colour c) ∙ w.count;
  h = λ u T v walk.
      let U = shift_at found u in let there = walk_at G g 1 found w u v.0 (some_walk G g found w all u v) in
      at u v ∙ ap neg_ℤ (sym (same_dot c.x c.y c.z T.x T.y T.z U.x U.y U.z (closed (minus T U) (closed_difference G 1 u T U walk there))));
}
  where
    closed : IsOrthogonal G c
    closed = orthogonal_closed G 1 found c g (omega arith) w n.orthogonal

    at : (u : ℕ) → IsQuotientVertex G u → entry (map (flat_colour c) found) u ≡ flat_colour c (walk_to found u)
    at u v =
        let count = w.count in let low = v.0 in let high = v.1 in
        get_or-map (flat_colour c) found (u - 1) None (pos 0) (omega arith)

-- The lattice of a net's closed walks of full rank.

-- what was added is a member
pub added_members : (d : ℕ) (m : ℤ) (vs : List Vector) (S : Stairs) → IsLatticeOf d m vs S → All (Members d S) vs
added_members d m vs S h k v l =
    let w = get_or vs k v in
    with_has (Members d h.start) (Members d S) vs h.with (members_group d h.start).zero w (in_from_contains vs w k l (get_or_default vs k w v l))

-- a sum without its last product
sum_zero : (a b x y k z : ℤ) → k ≡ pos 0 → x *ℤ a +ℤ (y *ℤ b +ℤ k *ℤ z) ≡ x *ℤ a +ℤ y *ℤ b
sum_zero a b x y k z e = let p = ap (λ t. t *ℤ z) e in omega (arith, linear, simp ring at p)

-- the volume as a triple product
volume_is : (a b c : Vector) → dot (cross a b) c ≡ triple_product a b c
volume_is a b c = simp ring (omega (arith, linear))

module _ (d : ℕ) (L : Vector → Type 0) (h : IsVectorGroup L) (dim : (v : Vector) → L v → HasDimension d v) (vs : List Vector) (all : All L vs) where
  -- in the plane
  flat_multiple : (a b v : Vector) → d ≡ 2 → L a → L b → HasDimension d v → L (times (triple_product a b (vector (pos 0) (pos 0) (pos 1))) v)
  flat_multiple a b v two i j flat =
      let up = vector (pos 0) (pos 0) (pos 1) in let k = products a b up v in
      let none : k.z ≡ pos 0 = flat_triple a b v (dim a i two) (dim b j two) (flat two) in
      let same : times (triple_product a b up) v ≡ plus (times k.x a) (times k.y b) =
      cramer a b up v ∙ vector_equal (sum_zero a.x b.x k.x k.y k.z (pos 0) none) (sum_zero a.y b.y k.x k.y k.z (pos 0) none)
      (sum_zero a.z b.z k.x k.y k.z (pos 1) none) in
      subst L (sym same) (h.sums (times k.x a) (times k.y b) (times_in L h k.x a i) (times_in L h k.y b j))

  -- in space
  space_multiple : (a b c v : Vector) → L a → L b → L c → L (times (triple_product a b c) v)
  space_multiple a b c v i j l =
      let k = products a b c v in
      subst L (sym (cramer a b c v)) (h.sums (times k.x a) (plus (times k.y b) (times k.z c)) (times_in L h k.x a i)
      (h.sums (times k.y b) (times k.z c) (times_in L h k.y b j) (times_in L h k.z c l)))

  -- with the sign
  signed : (t m : ℤ) (v : Vector) → m ≡ pos (unsigned_abs t) → L (times t v) → L (times m v)
  signed t m v e l =
      let s = sign_of t in
      subst L (sym (product_times s.0 t v) ∙ ap (λ k. times k v) (sym (e ∙ s.1))) (times_in L h s.0 (times t v) l)

  -- the multiples of a volume are in the group
  pub volume_multiples : (m : ℤ) → (d ≡ 2) ⊎ (d ≢ 2) → IsVolume d vs m → (v : Vector) → HasDimension d v → L (times m v)
  volume_multiples m (inl two) s v flat =
      let up = s.third.0 two in let i = All-contains L vs s.a all s.first in
      let j = All-contains L vs s.b all s.second in
      signed (dot (cross s.a s.b) s.c) m v s.is
      (rw (volume_is s.a s.b s.c) (subst (λ c. L (times (triple_product s.a s.b c) v)) (sym up) (flat_multiple s.a s.b v two i j flat)))
  volume_multiples m (inr n) s v flat =
      signed (dot (cross s.a s.b) s.c) m v s.is
      (subst (λ t. L (times t v)) (sym (volume_is s.a s.b s.c))
      (space_multiple s.a s.b s.c v (All-contains L vs s.a all s.first) (All-contains L vs s.b all s.second) (All-contains L vs s.c all (s.third.1 n))))

  -- a multiple that is 0
  part_zero : (m u : ℤ) → pos 1 ≤ℤ m → m *ℤ u ≡ pos 0 → u ≡ pos 0
  part_zero m u l e = other_factor_zero m u e (λ z. absurd (omega (arith, ints, z, l)))

  -- and so is all of the lattice
  pub lattice_inside : (m : ℤ) (S : Stairs) → (d ≡ 2) ⊎ (d ≢ 2) → IsVolume d vs m → IsLatticeOf d m vs S → (v : Vector) → Members d S v → L v
  lattice_inside m S which s t v i = with_inside (Members d t.start) (Members d S) L vs t.with h multiples
      (λ w k. All-contains L vs w all (contains_from_in vs w k)) v i
    where
      multiples : (u : Vector) → Members d t.start u → L u
      multiples u k =
          let w = (t.multiples u k.1).0 k in
          let flat : HasDimension d w.0 = λ e. part_zero m w.0.z s.from (sym (ap (λ (t : Vector). t.z) w.1) ∙ k.1 e) in
          subst L (sym w.1) (volume_multiples m which s w.0 flat)

-- a dimension is 2 or not
pub two_or_not : (d : ℕ) → (d ≡ 2) ⊎ (d ≢ 2)
two_or_not d = grind arith

-- full rank: the members are exactly the shifts of closed walks
pub closed_by_volume : (G : Graph) (a : ℕ) (found : List (Option Vector)) (m : ℤ) (S : Stairs) → IsGraph G → IsQuotientVertex G a → AreWalks G a found
    → IsVolume G.dimension (generators G found) m → IsLatticeOf G.dimension m (generators G found) S → AreClosedWalks G a S
closed_by_volume G a found m S g q h s l = record {
  out = λ v i. lattice_inside G.dimension (ClosedShift G a) (closed_group G a) (λ v c. walk_dimension G g a a v q c) (generators G found)
      (generators_closed G g a found h q.0) m S (two_or_not G.dimension) s l v i;
  into = λ v c. closed_in G g a found h (Members G.dimension S) (members_group G.dimension S) (added_members G.dimension m (generators G found) S l) q.0 v c;
}

-- If all pivots are 1, the net is connected.

-- each vector is a closed walk then, and the net is connected
pub whole_connected : (G : Graph) (found : List (Option Vector)) (S : Stairs) → IsGraph G → AreWalks G 1 found → All IsSome found → AreClosedWalks G 1 S
    → IsWhole S → IsConnected G
whole_connected G found S g h all l w = connected_by_tree G (shift_at found) (is_tree G g found h all) (λ v d. l.out v (all_members S w v, d))

-- the closed walks, if the dimension and the vectors are those of the graph
pub closed_of : (G : Graph) (found : List (Option Vector)) (d : ℕ) (vs : List Vector) (m : ℤ) (S : Stairs) → IsGraph G → AreWalks G 1 found → G.dimension ≡ d
    → vs ≡ generators G found
    → IsVolume d vs m → IsLatticeOf d m vs S → AreClosedWalks G 1 S
closed_of G found d vs m S g h e f v l =
    closed_by_volume G 1 found m S g (one_vertex G g) h
    (subst (λ d. IsVolume d (generators G found) m) (sym e) (subst (λ vs. IsVolume d vs m) f v))
    (subst (λ d. IsLatticeOf d m (generators G found) S) (sym e) (subst (λ vs. IsLatticeOf d m vs S) f l))

-- closed walks that generate every vector show that the net is connected
pub connected_by_some : (G : Graph) (found : List (Option Vector)) (d : ℕ) (vs : List Vector) (m : ℤ) (S : Stairs) → IsGraph G → AreWalks G 1 found
    → All IsSome found → G.dimension ≡ d
    → All (ClosedShift G 1) vs → IsVolume d vs m → IsLatticeOf d m vs S → IsWhole S → IsConnected G
connected_by_some G found d vs m S g h all e closed v l w = connected_by_tree G (shift_at found) (is_tree G g found h all)
    (λ u flat. lattice_inside d (ClosedShift G 1) (closed_group G 1)
    (λ x c. subst (λ d. HasDimension d x) e (walk_dimension G g 1 1 x (one_vertex G g) c))
    vs closed m S (two_or_not d) v l u (all_members S w u, subst (λ d. HasDimension d u) e flat))
