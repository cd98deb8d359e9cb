-- The key, the standard map and the answer do not depend on the shapes by which nets are known.
use Rattle.std.proofs.Common.{◌≡◌, ℕ, zero, suc, ◌≤◌, ℤ, List, [], ◌∷◌, ◌++◌, sym, subst, ◌∙◌, arith}
use Rattle.std.{proofs.Math.Nat.le_antisymm, specs.List.Contains}
use Rattle.periodic_net.specs.Classes.{ClassArc, ClassGraph, IsClassGraph, LeadsIn}
use Rattle.periodic_net.specs.Graph.{Graph, IsGraph, IsQuotientVertex, Vertex}
use Rattle.periodic_net.{specs.Placement.Placement, specs.ClassNets.MayFollow, proofs.CallerLemmas.one_placement}
use Rattle.key_theory.specs.Frames.{IsFrame, IsFrameAfter, IsNext}
use Rattle.key_theory.specs.Key.{IsLeastList, IsSomeList, Shape}
use Rattle.key_theory.specs.Traversal.{Axes, Enters, IsFirst, IsListOf, axes_of}
use Rattle.key_theory.specs.Primitive.{IsLeastMember}
use Rattle.least_key.proofs.OneAnswer.{one_numbering, same_arcs}
use Rattle.standard_map.specs.StandardMaps.{HaveSameCoordinates, IsFramedByKey, IsStandardMap, framed_net, vector_between}
use Rattle.standard_map.specs.{LeastPairs.IsPairOf, MapNumbers.StandardTable}
use Rattle.net_certificate.specs.declared.maps.MapAnswer.TheVariants.{Different, Found, LongMap, WideMap}
use Rattle.net_certificate.specs.{Answers.IsAnswerBy, declared.maps.MapAnswer.MapAnswer}

-- the class graph with these arcs
abbrev classes_with : ℕ → ℕ → List ClassArc → ClassGraph
classes_with d n arcs = record { dimension = d; count = n; arcs = arcs }

-- two lists have the same arcs
record HaveSame (xs ys : List ClassArc) : Type 0 where
  there : (b : ClassArc) → Contains xs b → Contains ys b
  back : (b : ClassArc) → Contains ys b → Contains xs b

turned : (xs ys : List ClassArc) → HaveSame xs ys → HaveSame ys xs
turned xs ys h = record { there = h.back; back = h.there }

module _ (d n : ℕ) where
  leads : (xs ys : List ClassArc) → HaveSame xs ys → (k c e : ℕ) → LeadsIn (classes_with d n xs) k c e → LeadsIn (classes_with d n ys) k c e
  leads xs ys h zero c e l = l
  leads xs ys h (suc k) c e l = (l.0, h.there l.0 l.1, l.2, leads xs ys h k (l.0).to e l.3)

  may_follow : (xs ys : List ClassArc) → HaveSame xs ys → (earlier : List ClassArc) (a : ClassArc) → MayFollow (classes_with d n xs) earlier a
      → MayFollow (classes_with d n ys) earlier a
  may_follow xs ys h earlier a m = record { is_arc = h.there a m.is_arc; independent = m.independent }

  next : (xs ys : List ClassArc) → HaveSame xs ys → (c : ℕ) (earlier : List ClassArc) (a : ClassArc) → IsNext (classes_with d n xs) c earlier a
      → IsNext (classes_with d n ys) c earlier a
  next xs ys h c earlier a m = record {
    may = may_follow xs ys h earlier a m.may;
    nearest = λ b f k l.
        let r = m.nearest b (may_follow ys xs (turned xs ys h) earlier b f) k (leads ys xs (turned xs ys h) k c b.from l) in
        (r.0, r.1, leads xs ys h r.0 c a.from r.2);
  }

  frame_after : (xs ys : List ClassArc) → HaveSame xs ys → (c : ℕ) (earlier f : List ClassArc) → IsFrameAfter (classes_with d n xs) c earlier f
      → IsFrameAfter (classes_with d n ys) c earlier f
  frame_after xs ys h c earlier [] f = tt
  frame_after xs ys h c earlier (a ∷ rest) f = (next xs ys h c earlier a f.0, frame_after xs ys h c (earlier ++ a ∷ []) rest f.1)

  -- frames are frames
  frame : (xs ys : List ClassArc) → HaveSame xs ys → (c : ℕ) (f : List ClassArc) → IsFrame (classes_with d n xs) c f → IsFrame (classes_with d n ys) c f
  frame xs ys h c f i = record { count = i.count; each = frame_after xs ys h c [] f i.each }

  enters : (xs ys : List ClassArc) → HaveSame xs ys → (number : ℕ → ℕ) (j : ℕ) (a : ClassArc) → Enters (classes_with d n xs) number j a
      → Enters (classes_with d n ys) number j a
  enters xs ys h number j a e = record { is_arc = h.there a e.is_arc; to = e.to; rises = e.rises }

  first : (xs ys : List ClassArc) → HaveSame xs ys → (f : Axes) (number : ℕ → ℕ) (j : ℕ) (a : ClassArc) → IsFirst (classes_with d n xs) f number j a
      → IsFirst (classes_with d n ys) f number j a
  first xs ys h f number j a i = record { enters = enters xs ys h number j a i.enters; least = λ b e. i.least b (enters ys xs (turned xs ys h) number j b e) }

  -- and lists are lists
  list : (xs ys : List ClassArc) → HaveSame xs ys → (c : ℕ) (f : List ClassArc) (zs : List ℤ) → IsListOf (classes_with d n xs) c f zs
      → IsListOf (classes_with d n ys) c f zs
  list xs ys h c f zs l =
      let t = l.traversal in let h' = turned xs ys h in
      record {
        number = l.number;
        traversal = record {
          numbering = record { range = t.numbering.range; once = t.numbering.once; all = t.numbering.all };
          start = t.start;
          first = λ j low high. let r = t.first j low high in (r.0, first xs ys h (axes_of f) l.number j r.0 r.1);
          rising = λ j k a b low less high p q. t.rising j k a b low less high (first ys xs h' (axes_of f) l.number j a p)
              (first ys xs h' (axes_of f) l.number k b q);
        };
        q = l.q;
        scale = record {
          positive = l.scale.positive;
          scale = λ a i. l.scale.scale a (h.back a i);
          least = λ r low s. l.scale.least r low (λ a i. s a (h.there a i));
        };
        rows = l.rows;
        ordered = record {
          rising = l.ordered.rising;
          exact = λ a. (λ i. let r = (l.ordered.exact a).0 i in (h.there a r.0, r.1), λ r. (l.ordered.exact a).1 (h.back a r.0, r.1));
        };
        list = l.list;
      }

  some_list : (xs ys : List ClassArc) → HaveSame xs ys → (zs : List ℤ) → IsSomeList (classes_with d n xs) zs → IsSomeList (classes_with d n ys) zs
  some_list xs ys h zs s = record {
    start = s.start;
    frame = s.frame;
    low = s.low;
    high = s.high;
    is_frame = frame xs ys h s.start s.frame s.is_frame;
    list = list xs ys h s.start s.frame zs s.list;
  }

  least_list : (xs ys : List ClassArc) → HaveSame xs ys → (zs : List ℤ) → IsLeastList (classes_with d n xs) zs → IsLeastList (classes_with d n ys) zs
  least_list xs ys h zs l = record { some = some_list xs ys h zs l.some; least = λ ws s. l.least ws (some_list ys xs (turned xs ys h) ws s) }

  pair : (xs ys : List ClassArc) → HaveSame xs ys → (zs : List ℤ) (c : ℕ) (f : List ClassArc) → IsPairOf (classes_with d n xs) zs c f
      → IsPairOf (classes_with d n ys) zs c f
  pair xs ys h zs c f p = record { is_class = p.is_class; is_frame = frame xs ys h c f p.is_frame; list = list xs ys h c f zs p.list }

  framed : (xs ys : List ClassArc) → HaveSame xs ys → (key : List ℤ) (c : ℕ) (f : List ClassArc) → IsFramedByKey (classes_with d n xs) key c f
      → IsFramedByKey (classes_with d n ys) key c f
  framed xs ys h key c f k =
      let h' = turned xs ys h in
      record {
        least_list = least_list xs ys h key k.least_list;
        pair = record {
          pair = pair xs ys h key c f k.pair.pair;
          start = λ e g p. k.pair.start e g (pair ys xs h' key e g p);
          least = λ g p. k.pair.least g (pair ys xs h' key c g p);
        };
      }

module _ (G : Graph) (ig : IsGraph G) (g g' : Shape G) where
  -- the placement is one
  placement : g'.placement ≡ g.placement
  placement = one_placement G ig g.stable.connected g'.placement g.placement g'.stable.placement g.stable.placement

  others : IsClassGraph G g.placement g'.class_of g'.classes
  others = subst (λ (q : Placement). IsClassGraph G q g'.class_of g'.classes) placement g'.is_classes

  -- the class of a vertex is one
  class : (u : ℕ) → IsQuotientVertex G u → g.class_of u ≡ g'.class_of u
  class u i = one_numbering G g.placement g.class_of g'.class_of g.is_classes.numbering others.numbering u i

  -- the number of classes is one
  count : g.classes.count ≡ g'.classes.count
  count =
      let a = g.is_classes.last in let b = others.last in
      let p : g.classes.count ≤ g'.classes.count = let e = class a.0 a.1 in let l = others.below a.0 a.1 in let m = a.2 in omega (arith, e, l, m) in
      let q : g'.classes.count ≤ g.classes.count = let e = class b.0 b.1 in let l = g.is_classes.below b.0 b.1 in let m = b.2 in omega (arith, e, l, m) in
      le_antisymm p q

  -- the class graphs have the same arcs, and else nothing differs
  same : HaveSame g.classes.arcs g'.classes.arcs
  same = let s = same_arcs G ig g g' in record { there = s.there; back = s.back }

  other_graph : classes_with g.classes.dimension g.classes.count g'.classes.arcs ≡ g'.classes
  other_graph = let d = g.is_classes.dimension ∙ sym g'.is_classes.dimension in λ i. record { dimension = d i; count = count i; arcs = g'.classes.arcs }

  -- the key is a key
  key_there : (key : List ℤ) → IsLeastList g.classes key → IsLeastList g'.classes key
  key_there key l = subst (λ (K : ClassGraph). IsLeastList K key) other_graph
      (least_list g.classes.dimension g.classes.count g.classes.arcs g'.classes.arcs same key l)

  -- with its least start and frame
  framed_there : (key : List ℤ) (c : ℕ) (f : List ClassArc) → IsFramedByKey g.classes key c f → IsFramedByKey g'.classes key c f
  framed_there key c f k = subst (λ (K : ClassGraph). IsFramedByKey K key c f) other_graph
      (framed g.classes.dimension g.classes.count g.classes.arcs g'.classes.arcs same key c f k)

  -- and least members are least
  member_back : (c u : ℕ) → IsLeastMember G g'.class_of c u → IsLeastMember G g.class_of c u
  member_back c u m = record {
    is_vertex = m.is_vertex;
    member = class u m.is_vertex ∙ m.member;
    least = λ v i e. m.least v i (sym (class v i) ∙ e);
  }

module _ (G H : Graph) (ig : IsGraph G) (ih : IsGraph H) (g g' : Shape G) (h h' : Shape H) where
  -- a standard map is one by other shapes
  standard_there : (c e : ℕ) (f k : List ClassArc) (carry : Vertex → Vertex) → IsStandardMap G H (framed_net G g c f) (framed_net H h e k) carry
      → IsStandardMap G H (framed_net G g' c f) (framed_net H h' e k) carry
  standard_there c e f k carry s = record {
    into = s.into;
    start = λ u v m l. s.start u v (member_back G ig g g' c u m) (member_back H ih h h' e v l);
    joined = s.joined;
    arcs = λ w x i j a.
        subst (λ (p : Placement). HaveSameCoordinates (axes_of f) (axes_of k) (vector_between p w x) (vector_between h'.placement (carry w) (carry x)))
        (sym (placement G ig g g'))
        (subst (λ (q : Placement). HaveSameCoordinates (axes_of f) (axes_of k) (vector_between g.placement w x) (vector_between q (carry w) (carry x)))
        (sym (placement H ih h h')) (s.arcs w x i j a));
  }

  -- so is a table
  abbrev table_there : StandardTable G H g h → StandardTable G H g' h'
  table_there t =
      let s = t.standard in
      record {
        carry = t.carry;
        standard = record {
          key = s.key;
          start = s.start;
          frame = s.frame;
          start' = s.start';
          frame' = s.frame';
          here = framed_there G ig g g' s.key s.start s.frame s.here;
          there = framed_there H ih h h' s.key s.start' s.frame' s.there;
          carries = standard_there s.start s.start' s.frame s.frame' t.carry s.carries;
        };
        m = t.m;
        shifts = t.shifts;
        period = t.period;
      }

  -- and so is an answer
  answer_there : (room : ℕ) (t : MapAnswer) → IsAnswerBy G H g h room t → IsAnswerBy G H g' h' room t
  answer_there room Different a = record {
    key = a.key;
    key' = a.key';
    is_key = key_there G ig g g' a.key a.is_key;
    is_key' = key_there H ih h h' a.key' a.is_key';
    differ = a.differ;
  }
  answer_there room (LongMap entries) a = record { table = table_there a.table; count = a.count; past = a.past }
  answer_there room (WideMap value) a = record { table = table_there a.table; room_for = a.room_for; first = a.first }
  answer_there room (Found m) a = record {
    table = table_there a.table;
    room_for = a.room_for;
    period = a.period;
    images_are = a.images_are;
    rows_are = a.rows_are;
    within = a.within;
  }

-- also where the graphs are equal
pub answer_alike : (G G' H H' : Graph) (g : Shape G) (g' : Shape G') (h : Shape H) (h' : Shape H') (room : ℕ) (t : MapAnswer) → IsGraph G → IsGraph H
    → G ≡ G' → H ≡ H' → IsAnswerBy G H g h room t → IsAnswerBy G' H' g' h' room t
answer_alike G G' H H' g g' h h' room t ig ih e f a =
    subst (λ (X : Graph). (x : Shape X) → IsAnswerBy X H' x h' room t) e
    (λ x. subst (λ (Y : Graph). (y : Shape Y) → IsAnswerBy G Y x y room t) f (λ y. answer_there G H ig ih g x h y room t a) h') g'
