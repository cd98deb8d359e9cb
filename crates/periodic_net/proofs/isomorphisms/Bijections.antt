-- Bijections that join images if and only if the vertices are joined: the map back, one after another, and what isomorphisms are.
use Rattle.std.proofs.Common.{◌≡◌, ◌∙◌, map, ap, arith, refl, subst, sym}
use Prim.{Dec, yes, no}
use Rattle.periodic_net.specs.Graph.{AreJoined, Graph, IsConnected, IsGraph, IsReached, IsVertex, Vertex}
use Rattle.periodic_net.specs.Maps.{BareIso, IsBijection, Iso, JoinsAlike}
use Rattle.periodic_net.specs.BareLaws.{BareIsEquivalence}
use Rattle.periodic_net.proofs.isomorphisms.Periods.{IsMatching, matching_turned, walk_there}
use Rattle.periodic_net.proofs.placements.Positions.{is_vertex_decided}

-- The map back, which is such a bijection too.

module _ (G H : Graph) (f : Vertex → Vertex) (b : IsBijection G H f) where
  -- the vertex that goes to y
  abbrev back_by : (y : Vertex) → Dec (IsVertex H y) → Vertex
  back_by y (yes j) = (b.onto y j).0
  back_by y (no n) = y

  -- the map back
  abbrev pub back : Vertex → Vertex
  back y = back_by y (is_vertex_decided H y)

  -- it is so
  pub back_is : (y : Vertex) → IsVertex H y → IsVertex G (back y) × (f (back y) ≡ y)
  back_is y j = search (arith, is_vertex_decided)

  -- it is a bijection
  pub back_bijection : IsBijection H G back
  back_bijection = record {
    into = λ y j. (back_is y j).0;
    once = λ x y i j e. sym (back_is x i).1 ∙ ap f e ∙ (back_is y j).1;
    onto = λ w i. let p = b.into w i in let r = back_is (f w) p in (f w, p, b.once (back (f w)) w r.0 i r.1);
  }

  -- it joins images if and only if the vertices are joined
  pub back_joins : JoinsAlike G H f → JoinsAlike H G back
  back_joins alike x y i j =
      let p = back_is x i in let r = back_is y j in let s = alike (back x) (back y) p.0 r.0 in (
        (λ a. s.1 (subst (λ (t : Type 0). t) (λ l. AreJoined H (sym p.1 l) (sym r.1 l)) a)),
        (λ a. subst (λ (t : Type 0). t) (λ l. AreJoined H (p.1 l) (r.1 l)) (s.0 a)),
      )

-- the two maps undo each other and carry joined vertices to joined vertices
pub bare_matching : (G H : Graph) → (e : BareIso G H) → IsMatching G H e.map (back G H e.map e.bijection)
bare_matching G H e =
    let b = e.bijection in let r = back G H e.map b in record {
      into = b.into;
      onto = λ x i. (back_is G H e.map b x i).0;
      back_there = λ w i. let k = b.into w i in let n = back_is G H e.map b (e.map w) k in b.once (r (e.map w)) w n.0 i n.1;
      there_back = λ x i. (back_is G H e.map b x i).1;
      there_joins = λ w x i j. (e.joins w x i j).0;
      back_joins = λ w x i j. (back_joins G H e.map b e.joins w x i j).0;
    }

-- the map back is such a bijection
pub bare_turned : (G H : Graph) → BareIso G H → BareIso H G
bare_turned G H e = record {
  map = back G H e.map e.bijection;
  bijection = back_bijection G H e.map e.bijection;
  joins = back_joins G H e.map e.bijection e.joins;
}

-- and undoes it
pub bare_undone : (G H : Graph) → (e : BareIso G H) → (f : BareIso H G) × ((w : Vertex) → IsVertex G w → f.map (e.map w) ≡ w)
unfolding bare_turned
bare_undone G H e = (bare_turned G H e, (bare_matching G H e).back_there)

-- what leads so to a connected net is connected
pub bare_connected : (G H : Graph) → IsGraph H → BareIso G H → IsConnected H → IsConnected G
bare_connected G H h e c x y i j =
    let m = bare_matching G H e in let f = e.map in let r = back G H f e.bijection in
    let s = c (f x) (f y) (m.into x i) (m.into y j) in
    subst (λ (t : Type 0). t) (λ k. IsReached G (m.back_there x i k) (m.back_there y j k))
    (map r s.0, walk_there H G h r f (matching_turned G H f r m) s.0 (f x) (f y) (m.into x i) s.1)

-- an isomorphism is such a bijection
unfoldable pub bare_of_iso : (G H : Graph) → Iso G H → BareIso G H
bare_of_iso G H i = record {
  map = i.there;
  bijection = record {
    into = i.there_period.2.into;
    once = λ w x j k e. sym (i.back_there w j) ∙ ap i.back e ∙ i.back_there x k;
    onto = λ y j. (i.back y, i.back_period.2.into y j, i.there_back y j);
  };
  joins = λ w x j k. (
    i.there_joins w x j k,
    (λ a. subst (λ (t : Type 0). t) (λ l. AreJoined G (i.back_there w j l) (i.back_there x k l))
        (i.back_joins (i.there w) (i.there x) (i.there_period.2.into w j) (i.there_period.2.into x k) a)),
  );
}

-- Such nets are an equivalence.

-- each net is so to itself
abbrev pub bare_reflexive : (G : Graph) → BareIso G G
bare_reflexive G = record {
  map = λ w. w;
  bijection = record { into = λ w i. i; once = λ w x i j e. e; onto = λ y j. (y, j, refl) };
  joins = λ w x i j. ((λ a. a), (λ a. a));
}

-- one after another
pub bare_transitive : (G H K : Graph) → BareIso G H → BareIso H K → BareIso G K
bare_transitive G H K d e =
    let b = d.bijection in let c = e.bijection in record {
      map = λ w. e.map (d.map w);
      bijection = record {
        into = λ w i. c.into (d.map w) (b.into w i);
        once = λ w x i j s. b.once w x i j (c.once (d.map w) (d.map x) (b.into w i) (b.into x j) s);
        onto = λ z k. let y = c.onto z k in let w = b.onto y.0 y.1 in (w.0, w.1, ap e.map w.2 ∙ y.2);
      };
      joins = λ w x i j.
          let there = d.joins w x i j in let further = e.joins (d.map w) (d.map x) (b.into w i) (b.into x j) in
          ((λ a. further.0 (there.0 a)), (λ a. there.1 (further.1 a)));
    }

-- so they are
pub bare_equivalence : BareIsEquivalence
bare_equivalence = record { reflexive = bare_reflexive; symmetric = bare_turned; transitive = bare_transitive }
