-- All symmetries of the one of two isomorphic nets are, carried over, all symmetries of the other.
use Rattle.std.proofs.Common.{◌≡◌, List, sym, ap, ◌∙◌, refl}
use Rattle.std.specs.List.{Contains}
use Rattle.integers.proofs.vectors.Laws.{minus_dimension, plus_minus, plus_zero}
use Rattle.integers.specs.Vectors.{minus, zero_vector}
use Rattle.periodic_net.proofs.isomorphisms.Bijections.{bare_undone}
use Rattle.periodic_net.specs.Graph.{Graph, IsVertex, moved, Vertex, vertex}
use Rattle.periodic_net.specs.Maps.{BareIso}
use Rattle.net_symmetries.specs.Operations.{AreSymmetries, Operation}
use Rattle.symmetry_answers.specs.Carried.{IsCarried}
use Rattle.net_symmetries.proofs.Repeating.{after, move}
use Rattle.symmetry_answers.specs.Laws.{OrbitsCarry, SymmetriesCarry}

-- a symmetry of G between an isomorphism there and one back: a symmetry of P
abbrev between : (G P : Graph) → BareIso P G → BareIso G G → BareIso G P → BareIso P P
between G P b e i =
    let r = b.bijection in let s = e.bijection in let t = i.bijection in
    record {
      map = λ x. i.map (e.map (b.map x));
      bijection = record {
        into = λ x v. t.into (e.map (b.map x)) (s.into (b.map x) (r.into x v));
        once = λ x y v w h.
            let p = r.into x v in let q = r.into y w in
            r.once x y v w (s.once (b.map x) (b.map y) p q (t.once (e.map (b.map x)) (e.map (b.map y)) (s.into (b.map x) p) (s.into (b.map y) q) h));
        onto = λ z k.
            let y = t.onto z k in let w = s.onto y.0 y.1 in let x = r.onto w.0 w.1 in
            (x.0, x.1, ap (λ (v : Vertex). i.map (e.map v)) x.2 ∙ ap i.map w.2 ∙ y.2);
      };
      joins = λ x y v w.
          let p = r.into x v in let q = r.into y w in
          let first = b.joins x y v w in let second = e.joins (b.map x) (b.map y) p q in
          let third = i.joins (e.map (b.map x)) (e.map (b.map y)) (s.into (b.map x) p) (s.into (b.map y) q) in
          ((λ h. third.0 (second.0 (first.0 h))), (λ h. first.1 (second.1 (third.1 h))));
    }

module _ (G P : Graph) (i : BareIso G P) where
  -- an isomorphism back, which undoes the one there and is undone by it
  record Undoing : Type 0 where
    back : BareIso P G
    back_there : (w : Vertex) → IsVertex G w → back.map (i.map w) ≡ w
    there_back : (x : Vertex) → IsVertex P x → i.map (back.map x) ≡ x

  undoing : Undoing
  undoing =
      let u = bare_undone G P i in let b = u.0 in
      record {
        back = b;
        back_there = u.1;
        there_back = λ x v.
            let w = b.map x in let inside = b.bijection.into x v in
            b.bijection.once (i.map w) x (i.bijection.into w inside) v (u.1 w inside);
      }

  -- a symmetry of the one net makes one of the other
  over : BareIso G G → BareIso P P
  over e = between G P undoing.back e i

  over_is : (e : BareIso G G) (w : Vertex) → IsVertex G w → i.map (e.map w) ≡ (over e).map (i.map w)
  unfolding over
  over_is e w v = ap (λ (x : Vertex). i.map (e.map x)) (sym (undoing.back_there w v))

  -- and the other way
  under : BareIso P P → BareIso G G
  under d = between P G i d undoing.back

  under_is : (d : BareIso P P) (w : Vertex) → IsVertex G w → i.map ((under d).map w) ≡ d.map (i.map w)
  unfolding under
  under_is d w v = undoing.there_back (d.map (i.map w)) (d.bijection.into (i.map w) (i.bijection.into w v))

  module _ (os : List Operation) (all : AreSymmetries P os) where
    each_over : (o : Operation) → Contains os o → (e : BareIso G G) × IsCarried G P i e o
    each_over o k =
        let s = all.each o k in (
          under s.symmetry,
          record {
            there = s.symmetry;
            carried = under_is s.symmetry;
            after = record { first = s; by = zero_vector; dimension = λ d. refl; moved = λ w v. still (s.symmetry.map w) };
          },
        )
      where
        still : (x : Vertex) → x ≡ moved x zero_vector
        still x = λ k. vertex x.over (sym (plus_zero x.cell) k)

    all_over : (e : BareIso G G) → (o : Operation) × Contains os o × IsCarried G P i e o
    all_over e = let r = all.all (over e) in (r.0, r.1, record { there = over e; carried = over_is e; after = r.2 })

    -- two that are carried over from one have the same values
    same_over : (e : BareIso G G) (o q : Operation) (h : IsCarried G P i e o) (k : IsCarried G P i e q) (x : Vertex) → IsVertex P x
        → h.there.map x ≡ k.there.map x
    same_over e o q h k x v =
        let w = undoing.back.map x in let inside = undoing.back.bijection.into x v in let is = undoing.there_back x v in
        ap h.there.map (sym is) ∙ sym (h.carried w inside) ∙ k.carried w inside ∙ ap k.there.map is

    one_over : (e : BareIso G G) (o q : Operation) → Contains os o → Contains os q → IsCarried G P i e o → IsCarried G P i e q → o ≡ q
    one_over e o q a b h k = all.one h.there o q a b h.after (record {
      first = k.after.first;
      by = k.after.by;
      dimension = k.after.dimension;
      moved = λ w v. same_over e o q h k w v ∙ k.after.moved w v;
    })

-- as the law says it
pub symmetries_carry : SymmetriesCarry
symmetries_carry G P i os all = record { each = each_over G P i os all; all = all_over G P i os all; one = one_over G P i os all }

-- two vertices over one differ by a move by whole cells
apart : (P : Graph) (y z : Vertex) → IsVertex P y → IsVertex P z → y.over ≡ z.over → (e : BareIso P P) × (e.map y ≡ z)
apart P y z j k e =
    let m = move P (minus z.cell y.cell) (minus_dimension P.dimension z.cell y.cell k.cell j.cell) in
    (m.0, ap (λ (f : Vertex → Vertex). f y) m.1 ∙ (λ l. vertex (e l) (plus_minus y.cell z.cell l)))

pub orbits_carry : OrbitsCarry
orbits_carry G P i w x j k =
    let y = i.map w in let z = i.map x in let iy = i.bijection.into w j in let iz = i.bijection.into x k in (
      (λ h. record {
        symmetry = over G P i h.0;
        w = y;
        is_vertex = iy;
        from = refl;
        to = ap (λ (v : Vertex). v.over) (sym (over_is G P i h.0 w j) ∙ ap i.map h.1);
      }),
      (λ h.
          let s = h.symmetry in let is = s.bijection.into h.w h.is_vertex in
          let first = apart P y h.w iy h.is_vertex (sym h.from) in let last = apart P (s.map h.w) z is iz h.to in
          let d = after P first.0 (after P s last.0) in
          let there : d.map y ≡ z = ap (λ (v : Vertex). last.0.map (s.map v)) first.1 ∙ last.1 in
          let e = under G P i d in
          (e, i.bijection.once (e.map w) x (e.bijection.into w j) k (under_is G P i d w j ∙ there))),
    )
