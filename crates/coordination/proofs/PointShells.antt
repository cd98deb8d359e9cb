-- The shells of a vertex have the sizes of the shells of its point, from where a search of points starts.
use Rattle.std.proofs.Common.{ℕ, pos, ◌≡◌, Bool, true, false, cond, ◌&&◌, ◌==◌, List, [], ◌∷◌, ◌++◌, refl, sym, ap, zero, suc, ℤ, ◌+ℤ◌, ◌-ℤ◌, length, subst}
use Rattle.std.proofs.Common.{◌∙◌, arith, ◌<◌, take, get_or, ◌+◌, inl, inr, map, ◌*◌, ◌⊎◌, sum, ◌≤◌, length-append}
use Rattle.std.proofs.lemmas.Bool.Decides.{Decides-eqb, Decides-int_eq, Decides-and, Decides-or, Decides-like, not_from_Decides}
use Rattle.std.{proofs.lemmas.List.take_more, proofs.lemmas.List.length-map, specs.Bool.Decides, specs.List.All, specs.Ordering.int_eq}
use Rattle.coordination.specs.Found.{same_point, is_found, all_found, all_new}
use Rattle.coordination.specs.Points.{point, place_of, IsStep, ends_of, AreShort, IsNear}
use Rattle.coordination.specs.Sequences.{most_shells, AreShellsOf, AreShellsOfClass, IsShellPast}
use Rattle.coordination.proofs.Layers.{Leads, IsShell, AreShell, neighbours, points_around, AreSearched, search_more, some_shell, IsPast, AreSizes}
use Rattle.coordination.proofs.Layers.{AreCounted, AreLayers}
use Rattle.coordination.specs.{declared.point.Point.Point, Expanding.StandOnce, Laws.IsNewNeighbour}
use Prim.{Dec, yes, no}
use Rattle.integers.proofs.lists.Members.{IsIn, AreApart, is_in, contains_from_in, pairs_from_apart, in_map, apart_from_images, all_from_in, in_filter}
use Rattle.integers.proofs.lists.GrownLists.{Grows, grows_none, grows_old, grows_new}
use Rattle.integers.specs.Vectors.{Vector, plus, minus, IsWithin}
use Rattle.integers.proofs.{numbers.Ring.linear, vectors.Laws.vector_equal, vectors.Bounds.bounded_plus, vectors.Bounds.wider}
use Rattle.periodic_net.specs.Graph.{Graph, IsGraph, Vertex, IsVertex, AreJoined, IsWalk}
use Rattle.periodic_net.specs.Shells.{StepsLead, IsInShell, IsShellSize}
use Rattle.periodic_net.proofs.CallerLemmas.{positions_tell, joined_inside, joined_turned, walks_joined}
use Rattle.periodic_net.specs.{Placement.position, Correspondence.IsClass, Classes.ClassGraph, Classes.ClassArc, Limits.most_coordinate}
use Rattle.key_theory.proofs.CallerLemmas.{arc_seen, leaves, seen, seen_place}
use Rattle.key_theory.specs.Key.{Shape}
use Rattle.quotient_graph.specs.ClassNets.{arcs_of, IsSmallNet}

-- the point of class c at place 0
abbrev pub start_at : ℕ → Point
start_at c = record { class = c; x = pos 0; y = pos 0; z = pos 0 }

-- What a search finds with more points.

-- equal in each part
abbrev Parts : Point → Point → Type 0
Parts p q = (p.class ≡ q.class) × ((p.x ≡ q.x) × ((p.y ≡ q.y) × (p.z ≡ q.z)))

-- so equal
equal_from_parts : (p q : Point) → Parts p q → p ≡ q
equal_from_parts p q (c, (x, (y, z))) = λ i. record { class = c i; x = x i; y = y i; z = z i }

-- the test is true if and only if points are equal
same_decides : (p q : Point) → Decides (same_point p q) (p ≡ q)
same_decides p q =
    Decides-like (same_point p q) (equal_from_parts p q)
    (λ e. (ap (λ (r : Point). r.class) e, (ap (λ (r : Point). r.x) e, (ap (λ (r : Point). r.y) e, ap (λ (r : Point). r.z) e))))
    (Decides-and (p.class == q.class) (int_eq p.x q.x && (int_eq p.y q.y && int_eq p.z q.z)) (Decides-eqb p.class q.class)
    (Decides-and (int_eq p.x q.x) (int_eq p.y q.y && int_eq p.z q.z) (Decides-int_eq p.x q.x)
    (Decides-and (int_eq p.y q.y) (int_eq p.z q.z) (Decides-int_eq p.y q.y) (Decides-int_eq p.z q.z))))

-- the test is true if and only if a point was found
found_decides : (found : List Point) (p : Point) → Decides (is_found found p) (IsIn found p)
found_decides [] p = ((λ e. cannot e), (λ i. absurd i))
  where
    cannot : false ≡ true → ⊥
    cannot e = cc
found_decides (q ∷ found) p = Decides-or (same_point p q) (is_found found p) (Decides-like (same_point p q) sym sym (same_decides p q)) (found_decides found p)

-- whether points are one point
pub same_point_decided : (p q : Point) → Dec (p ≡ q)
same_point_decided p q = by (same_point p q) refl
  where
    by : (b : Bool) → same_point p q ≡ b → Dec (p ≡ q)
    by true e = yes ((same_decides p q).0 e)
    by false e = no (not_from_Decides (same_point p q) (same_decides p q) e)

-- what is found and what is new grow by the same points
pub grows : (points found next : List Point) → Grows points found next (all_found found points) (all_new found next points)
grows [] found next = grows_none found next
grows (p ∷ ps) found next = by (is_found found p) refl (grows ps found next) (grows ps (found ++ p ∷ []) (next ++ p ∷ []))
  where
    by : (b : Bool) → is_found found p ≡ b → Grows ps found next (all_found found ps) (all_new found next ps)
        → Grows ps (found ++ p ∷ []) (next ++ p ∷ []) (all_found (found ++ p ∷ []) ps) (all_new (found ++ p ∷ []) (next ++ p ∷ []) ps)
        → Grows (p ∷ ps) found next (all_found (cond b found (found ++ p ∷ [])) ps) (all_new (cond b found (found ++ p ∷ [])) (cond b next (next ++ p ∷ [])) ps)
    by true e r s = grows_old p ps found next (all_found found ps) (all_new found next ps) ((found_decides found p).0 e) r
    by false e r s =
        grows_new p ps found next (all_found (found ++ p ∷ []) ps) (all_new (found ++ p ∷ []) (next ++ p ∷ []) ps)
        (not_from_Decides (is_found found p) (found_decides found p) e) s

-- The vertices of a net, as points seen from one of them.

-- points with equal parts are equal
point_equal : {p q : Point} → p.class ≡ q.class → place_of p ≡ place_of q → p ≡ q
point_equal c e = λ i. point (c i) (e i)

-- further by v, seen from t
further : (x y v t : ℤ) → y ≡ x +ℤ v → y -ℤ t ≡ (x -ℤ t) +ℤ v
further x y v t e = omega (arith, linear, e)

-- the same place, seen from t
same : (x y t : ℤ) → x -ℤ t ≡ y -ℤ t → x ≡ y
same x y t e = omega (arith, linear, e)

-- a number less itself
itself : (x : ℤ) → x -ℤ x ≡ pos 0
itself x = omega (arith, linear)

module _ (G : Graph) (h : Shape G) (w : Vertex) where
  -- x, as it is seen from w
  abbrev pub seen_from : Vertex → Point
  seen_from x = point (h.class_of x.over) (minus (position h.placement x) (position h.placement w))

  -- w sees itself at the start
  pub sees_itself : seen_from w ≡ start_at (h.class_of w.over)
  sees_itself = let p = position h.placement w in point_equal refl (vector_equal (itself p.x) (itself p.y) (itself p.z))

  -- what stands further by v is seen further by v
  seen_further : (x y : Vertex) (v : Vector) → position h.placement y ≡ plus (position h.placement x) v
      → minus (position h.placement y) (position h.placement w) ≡ plus (minus (position h.placement x) (position h.placement w)) v
  seen_further x y v e =
      let p = position h.placement x in let q = position h.placement y in let t = position h.placement w in
      vector_equal
      (further p.x q.x v.x t.x (ap (λ (u : Vector). u.x) e))
      (further p.y q.y v.y t.y (ap (λ (u : Vector). u.y) e))
      (further p.z q.z v.z t.z (ap (λ (u : Vector). u.z) e))

  -- joined vertices are seen as a step
  seen_step : (x y : Vertex) → AreJoined G x y → IsStep h.classes (seen_from x) (seen_from y)
  seen_step x y j = record {
    arc = arc_seen G h x y;
    is_arc = seen G h x y j;
    from = refl;
    onto = point_equal refl (sym (seen_further x y (arc_seen G h x y).vector (seen_place G h x y)));
  }

  -- a walk is seen as a walk of points
  seen_walk : (steps : List Vertex) (x y : Vertex) → IsWalk G x steps y → Leads (IsStep h.classes) (length steps) (seen_from x) (seen_from y)
  seen_walk [] x y k = ap seen_from k
  seen_walk (v ∷ vs) x y k = (seen_from v, seen_step x v k.0, seen_walk vs v y k.1)

  -- k steps in the net are k steps of points
  pub seen_leads : (k : ℕ) (x y : Vertex) → StepsLead G k x y → Leads (IsStep h.classes) k (seen_from x) (seen_from y)
  seen_leads k x y l = subst (λ n. Leads (IsStep h.classes) n (seen_from x) (seen_from y)) l.1 (seen_walk l.0 x y l.2)

  module _ (g : IsGraph G) where
    -- different vertices are seen as different points
    pub seen_once : (x y : Vertex) → IsVertex G x → IsVertex G y → seen_from x ≡ seen_from y → x ≡ y
    seen_once x y i j e =
        let p = position h.placement x in let q = position h.placement y in let t = position h.placement w in
        positions_tell G h.placement h.stable.no_collision x y i j (vector_equal
        (same p.x q.x t.x (ap (λ (u : Point). u.x) e))
        (same p.y q.y t.y (ap (λ (u : Point). u.y) e))
        (same p.z q.z t.z (ap (λ (u : Point). u.z) e)))

    -- a walk of k steps leads to a vertex that is seen as p
    pub record Ends (k : ℕ) (x : Vertex) (p : Point) : Type 0 where
      pub end : Vertex
      pub is_vertex : IsVertex G end
      pub leads : StepsLead G k x end
      pub shown : seen_from end ≡ p

    -- each walk of points is seen of a walk
    pub walk_seen : (k : ℕ) (x : Vertex) (p : Point) → IsVertex G x → Leads (IsStep h.classes) k (seen_from x) p → Ends k x p
    walk_seen zero x p i l = record { end = x; is_vertex = i; leads = ([], refl, refl); shown = l }
    walk_seen (suc k) x p i l =
        let t = l.1 in let b = leaves G h g t.arc t.is_arc x i (sym t.from) in
        let shows : seen_from b.end ≡ l.0 = point_equal b.class (seen_further x b.end t.arc.vector b.place) ∙ t.onto in
        let r = walk_seen k b.end p b.vertex_end (subst (λ (q : Point). Leads (IsStep h.classes) k q p) (sym shows) l.2) in
        record { end = r.end; is_vertex = r.is_vertex; leads = (b.end ∷ r.leads.0, ap suc r.leads.1, (b.joined, r.leads.2)); shown = r.shown }

-- A search of a shell of points goes on by one point.

module _ (K : ClassGraph) where
  -- the steps from the next point of the shell, as a call made them
  pub search_turn : (shell : List Point) (i : ℕ) {before found next found' next' : List Point} {star : List ClassArc}
      → AreSearched (IsStep K) (take i shell) before found next
      → i < length shell → star ≡ arcs_of K (get_or shell i (start_at 0)).class
      → found' ≡ all_found found (ends_of (get_or shell i (start_at 0)) star) → next' ≡ all_new found next (ends_of (get_or shell i (start_at 0)) star)
      → AreSearched (IsStep K) (take (i + 1) shell) before found' next'
  search_turn shell i {before} {found} {next} h l s e f =
      let r = get_or shell i (start_at 0) in
      rw (take_more shell i (start_at 0) l, e, f, s)
      (search_more (IsStep K) (neighbours K) (points_around K) (take i shell) before found next (all_found found (neighbours K r))
      (all_new found next (neighbours K r)) r h (grows (neighbours K r) found next))

module _ (G : Graph) (g : IsGraph G) where
  -- walks lead to vertices
  pub walk_inside : (steps : List Vertex) (x y : Vertex) → IsVertex G x → IsWalk G x steps y → IsVertex G y
  walk_inside [] x y i k = subst (IsVertex G) k i
  walk_inside (v ∷ vs) x y i k = walk_inside vs v y (joined_inside G g x v i k.0) k.1

  module _ (h : Shape G) (w : Vertex) (i : IsVertex G w) (c : ℕ) (e : h.class_of w.over ≡ c) where
    -- what w sees from the start
    starts : seen_from G h w w ≡ start_at c
    starts = sees_itself G h w ∙ ap start_at e

    -- a vertex of shell k is seen in shell k
    shell_seen : (k : ℕ) (x : Vertex) → IsInShell G w k x → IsShell (IsStep h.classes) (start_at c) k (seen_from G h w x)
    shell_seen k x m = record {
      reached = subst (λ (s : Point). Leads (IsStep h.classes) k s (seen_from G h w x)) starts (seen_leads G h w k w x m.reached);
      no_fewer = λ j l.
          let r = walk_seen G h w g j w (seen_from G h w x) i (subst (λ (s : Point). Leads (IsStep h.classes) j s (seen_from G h w x)) (sym starts) l) in
          m.no_fewer j (subst (StepsLead G j w) (seen_once G h w g r.end x r.is_vertex (shell_vertex k x m) r.shown) r.leads);
    }
      where
        shell_vertex : (k : ℕ) (x : Vertex) → IsInShell G w k x → IsVertex G x
        shell_vertex k x m = walk_inside m.reached.0 w x i m.reached.2

    -- a vertex of shell k that is seen as p
    record Shown (k : ℕ) (p : Point) : Type 0 where
      vertex : Vertex
      is_vertex : IsVertex G vertex
      inside : IsInShell G w k vertex
      shown : seen_from G h w vertex ≡ p

    -- each point of shell k shows one
    shell_shown : (k : ℕ) (p : Point) → IsShell (IsStep h.classes) (start_at c) k p → Shown k p
    shell_shown k p m =
        let r = walk_seen G h w g k w p i (subst (λ (s : Point). Leads (IsStep h.classes) k s p) (sym starts) m.reached) in
        record {
          vertex = r.end;
          is_vertex = r.is_vertex;
          inside = record {
            reached = r.leads;
            no_fewer = λ j l. m.no_fewer j (rw starts at (subst (Leads (IsStep h.classes) j (seen_from G h w w)) r.shown (seen_leads G h w j w r.end l)));
          };
          shown = r.shown;
        }

    -- vertices of shell k that are seen as these points
    record AllShown (k : ℕ) (points : List Point) : Type 0 where
      members : List Vertex
      shown : map (seen_from G h w) members ≡ points
      inside : (x : Vertex) → IsIn members x → IsVertex G x × IsInShell G w k x

    -- points of shell k show such vertices
    all_shown : (k : ℕ) (points : List Point) → ((p : Point) → IsIn points p → IsShell (IsStep h.classes) (start_at c) k p) → AllShown k points
    all_shown k [] m = record { members = []; shown = refl; inside = λ x j. absurd j }
    all_shown k (p ∷ ps) m = by (shell_shown k p (m p (inl refl))) (all_shown k ps (λ q j. m q (inr j)))
      where
        by : Shown k p → AllShown k ps → AllShown k (p ∷ ps)
        by r rs = record { members = r.vertex ∷ rs.members; shown = (λ t. r.shown t ∷ rs.shown t); inside = λ x j. of x j }
          where
            of : (x : Vertex) → IsIn (r.vertex ∷ rs.members) x → IsVertex G x × IsInShell G w k x
            of x h = grind arith

    -- they are as many
    shown_length : (k : ℕ) (points : List Point) (s : AllShown k points) → length s.members ≡ length points
    shown_length k points s = sym (length-map s.members (seen_from G h w)) ∙ ap length s.shown

    -- a shell of points has the size of the shell
    pub size_shown : (k : ℕ) (points : List Point) → AreShell (IsStep h.classes) (start_at c) k points → IsShellSize G w k (length points)
    size_shown k points m =
        let s = all_shown k points (λ p j. (m.exact p).0 j) in
        record {
          members = s.members;
          exact = λ x. (
            (λ j. (s.inside x (is_in s.members x j)).1),
            (λ q.
                let there = subst (λ ps. IsIn ps (seen_from G h w x)) (sym s.shown) ((m.exact (seen_from G h w x)).1 (shell_seen k x q)) in
                let r = in_map (seen_from G h w) s.members (seen_from G h w x) there in
                let same = seen_once G h w g r.0 x (s.inside r.0 r.1).0 (walk_inside q.reached.0 w x i q.reached.2) r.2 in
                contains_from_in s.members x (subst (IsIn s.members) same r.1)),
          );
          once = pairs_from_apart s.members (apart_from_images (seen_from G h w) s.members (subst AreApart (sym s.shown) m.once));
          count = shown_length k points s;
        }

-- each shell of points can be listed
pub some_point_shell : (K : ClassGraph) (s : Point) (k : ℕ) → (points : List Point) × AreShell (IsStep K) s k points
some_point_shell K = some_shell (IsStep K) same_point_decided (neighbours K) (points_around K)

-- each shell of a vertex has a size
pub each_size : (G : Graph) → IsGraph G → Shape G → (w : Vertex) → IsVertex G w → (k : ℕ) → (size : ℕ) × IsShellSize G w k size
each_size G g h w i k =
    let r = some_point_shell h.classes (start_at (h.class_of w.over)) k in
    (length r.0, size_shown G g h w i (h.class_of w.over) refl k r.0 r.1)

-- The classes and the places of the points of shells.

module _ (K : ClassGraph) (s : IsSmallNet K) where
  -- the vectors of the arcs from a class are within the limit
  pub star_short : (c : ℕ) (star : List ClassArc) → star ≡ arcs_of K c → AreShort star
  star_short c star e =
      rw e (all_from_in (λ (a : ClassArc). IsWithin most_coordinate a.vector) (arcs_of K c)
      (λ a i. s.within a (contains_from_in K.arcs a (in_filter (λ (b : ClassArc). b.from == c) K.arcs a i).0)))

  -- k steps lead to a class
  leads_class : (k : ℕ) (p q : Point) → IsClass K p.class → Leads (IsStep K) k p q → IsClass K q.class
  leads_class zero p q i l = subst (λ (r : Point). IsClass K r.class) l i
  leads_class (suc k) p q i l =
      let t = l.1 in let b = s.net.balanced.arcs t.arc t.is_arc in
      leads_class k l.0 q (subst (λ (r : Point). IsClass K r.class) t.onto b.to) l.2

  -- and no farther than k times the limit
  leads_near : (k m : ℕ) (p q : Point) → IsWithin m (place_of p) → Leads (IsStep K) k p q → IsWithin (m + k * most_coordinate) (place_of q)
  leads_near zero m p q i l = wider m (m + 0 * most_coordinate) (omega arith) (place_of q) (subst (λ (r : Point). IsWithin m (place_of r)) l i)
  leads_near (suc k) m p q i l =
      let t = l.1 in
      let first = bounded_plus (place_of p) t.arc.vector m most_coordinate i (s.within t.arc t.is_arc) in
      let rest = leads_near k (m + most_coordinate) l.0 q (subst (λ (r : Point). IsWithin (m + most_coordinate) (place_of r)) t.onto first) l.2 in
      wider ((m + most_coordinate) + k * most_coordinate) (m + suc k * most_coordinate) (omega arith) (place_of q) rest

  module _ (c k : ℕ) (before shell : List Point) (i : IsClass K c) (h : AreLayers (IsStep K) (start_at c) k before shell) where
    -- the points of a shell are over classes
    pub layer_classes : All (λ (p : Point). IsClass K p.class) shell
    layer_classes = all_from_in (λ (p : Point). IsClass K p.class) shell (λ p j. leads_class k (start_at c) p i (h.outer p j))

    -- another step may be made from the points of each shell but the last
    pub layer_near : k < most_shells → All IsNear shell
    layer_near l = all_from_in IsNear shell (λ p j. near (place_of p) (leads_near k 0 (start_at c) p (omega arith, omega arith, omega arith) (h.outer p j)))
      where
        near : (v : Vector) → IsWithin (0 + k * most_coordinate) v → IsWithin (9 * most_coordinate) v
        near v w = wider (0 + k * most_coordinate) (9 * most_coordinate) (omega arith) v w

-- the sizes for points are those for vertices
sizes_shown : (G : Graph) → IsGraph G → (h : Shape G) (w : Vertex) → IsVertex G w → (c : ℕ) → h.class_of w.over ≡ c → (sizes : List ℕ)
    → AreSizes (IsStep h.classes) (start_at c) sizes → AreShellsOf G w sizes
sizes_shown G g h w i c e sizes p = record {
  each = λ k l. let s = p.each k l in subst (IsShellSize G w (k + 1)) s.count (size_shown G g h w i c e (k + 1) s.members s.shell);
  within = p.within;
  few = p.few;
  ends = ends p.ends;
}
  where
    ends : (length sizes ≡ most_shells) ⊎ IsPast (IsStep h.classes) (start_at c) (length sizes + 1) (sum sizes)
        → (length sizes ≡ most_shells) ⊎ IsShellPast G w (length sizes + 1) (sum sizes)
    ends (inl t) = inl t
    ends (inr s) = inr (record { size = length s.members; is_size = size_shown G g h w i c e (length sizes + 1) s.members s.shell; past = s.past })

-- those for the points of a class graph are those for a class
pub class_shown : (K L : ClassGraph) → K ≡ L → (c : ℕ) (sizes : List ℕ) → AreSizes (IsStep K) (start_at c) sizes → AreShellsOfClass L c sizes
class_shown K L q c sizes p = λ G g h k w i e. sizes_shown G g h w i c e sizes
    (subst (λ (M : ClassGraph). AreSizes (IsStep M) (start_at c) sizes) (q ∙ sym k) p)

-- what the search for the next shell asks
pub record IsReady (K : ClassGraph) (found shell : List Point) : Type 0 where
  pub classes : All (λ (p : Point). IsClass K p.class) shell
  pub near : All IsNear shell
  pub once : StandOnce found

-- it holds of a shell that was counted before the last
pub ready : (K : ClassGraph) (c : ℕ) {sizes : List ℕ} {room : ℕ} {found shell lent : List Point} → IsSmallNet K → IsClass K c
    → AreCounted (IsStep K) (start_at c) sizes room found shell → length sizes < most_shells → lent ≡ shell
    → IsReady K found lent
ready K c {sizes} {room} {found} {shell} s i h few e = record {
  classes = subst (λ xs. All (λ (p : Point). IsClass K p.class) xs) (sym e) (layer_classes K s c (length sizes) h.before shell i h.layers);
  near = subst (λ xs. All IsNear xs) (sym e) (layer_near K s c (length sizes) h.before shell i h.layers few);
  once = pairs_from_apart found (subst AreApart (sym h.found_is) h.layers.once);
}

-- The next shell has the new neighbours of a shell.

module _ (G : Graph) (w : Vertex) where
  -- one step more
  joined_on : (k : ℕ) (y x : Vertex) → StepsLead G k w y → AreJoined G y x → StepsLead G (k + 1) w x
  joined_on k y x l j = (l.0 ++ x ∷ [], length-append l.0 (x ∷ []) ∙ ap (λ n. n + 1) l.1, walks_joined G w y x l.0 (x ∷ []) l.2 (j, refl))

  -- the last step of a walk
  record Last (v x : Vertex) (k : ℕ) : Type 0 where
    before : Vertex
    leads : StepsLead G k v before
    joined : AreJoined G before x

  -- a walk that begins with a step has a last step
  last_joined : (v u x : Vertex) (us : List Vertex) → AreJoined G v u → IsWalk G u us x → Last v x (length us)
  last_joined v u x [] j k = record { before = v; leads = ([], refl, refl); joined = subst (AreJoined G v) k j }
  last_joined v u x (t ∷ us) j k =
      let r = last_joined u t x us k.0 k.1 in
      record { before = r.before; leads = (u ∷ r.leads.0, ap suc r.leads.1, (j, r.leads.2)); joined = r.joined }

  -- so has each walk of some steps
  last_of : (k : ℕ) (x : Vertex) → StepsLead G (k + 1) w x → Last w x k
  last_of k x l = by l.0 l.1 l.2
    where
      by : (us : List Vertex) → length us ≡ k + 1 → IsWalk G w us x → Last w x k
      by [] e m = absurd (omega arith)
      by (u ∷ us) e m = subst (Last w x) (omega arith) (last_joined w u x us m.0 m.1)

  -- each vertex of shell k + 1 is a new neighbour of shell k
  pub next_is_new : (k : ℕ) (x : Vertex) → IsInShell G w (k + 1) x → IsNewNeighbour G w k x
  next_is_new k x m =
      let r = last_of k x m.reached in
      record {
        from = r.before;
        in_shell = record { reached = r.leads; no_fewer = λ j l. let a = m.no_fewer (j + 1) (joined_on j r.before x l r.joined) in omega arith };
        joined = r.joined;
        not_here = λ h. let a = m.no_fewer k h.reached in omega arith;
        not_before = λ j e h. let a = m.no_fewer j h.reached in omega arith;
      }

  -- and each new neighbour is in shell k + 1
  pub new_is_next : (k : ℕ) (x : Vertex) → IsNewNeighbour G w k x → IsInShell G w (k + 1) x
  new_is_next k x h = record { reached = joined_on k h.from x h.in_shell.reached h.joined; no_fewer = λ j l. by j l (cases j) }
    where
      cases : (j : ℕ) → ((j + 1 < k) ⊎ (j + 1 ≡ k)) ⊎ ((j ≡ k) ⊎ (k + 1 ≤ j))
      cases j = grind arith

      -- k is no more than one above any number of steps to x
      close : (i : ℕ) → StepsLead G i w x → k ≤ i + 1
      close i l = h.in_shell.no_fewer (i + 1) (joined_on i x h.from l (joined_turned G h.from x h.joined))

      before : (j : ℕ) → StepsLead G j w x → j + 1 ≡ k → IsInShell G w j x
      before j l e = record { reached = l; no_fewer = λ i m. let a = close i m in omega arith }

      here : StepsLead G k w x → IsInShell G w k x
      here l = record { reached = l; no_fewer = λ i m. at i m (cases i) }
        where
          at : (i : ℕ) → StepsLead G i w x → ((i + 1 < k) ⊎ (i + 1 ≡ k)) ⊎ ((i ≡ k) ⊎ (k + 1 ≤ i)) → k ≤ i
          at i m (inl (inl b)) = absurd (let a = close i m in omega arith)
          at i m (inl (inr b)) = absurd (h.not_before i b (before i m b))
          at i m (inr (inl b)) = omega arith
          at i m (inr (inr b)) = omega arith

      by : (j : ℕ) → StepsLead G j w x → ((j + 1 < k) ⊎ (j + 1 ≡ k)) ⊎ ((j ≡ k) ⊎ (k + 1 ≤ j)) → k + 1 ≤ j
      by j l (inl (inl b)) = absurd (let a = close j l in omega arith)
      by j l (inl (inr b)) = absurd (h.not_before j b (before j l b))
      by j l (inr (inl b)) = absurd (h.not_here (here (subst (λ n. StepsLead G n w x) b l)))
      by j l (inr (inr b)) = b
