-- What the columns' steps give for the lattice, and the last steps of an insertion.
use Rattle.std.proofs.Common.{◌≡◌, ℤ, pos, ◌+ℤ◌, ◌-ℤ◌, ◌*ℤ◌, neg_ℤ, ◌<ℤ◌, refl, ap, ◌∙◌, arith, ◌≤ℤ◌}
use Rattle.integers.proofs.numbers.{Ring.other_factor_zero, Ring.ring, Ring.linear, Order.positive_is_some}
use Rattle.integers.specs.Vectors.{Vector, vector}
use Rattle.vecdim.specs.Stairs.{InStairs, Stairs, stairs}
use Rattle.vecdim.specs.Steps.{Combo, Exchange, HasAdded, HasBound, InSum, IsBoxed, IsInserted, IsBoundedStair}
use Rattle.vecdim.proofs.Lattice.{IsClosed, four_in, HasRows, has_all, own_rows, stairs_closed, sum_closed}

-- what the steps of an insertion compute: three columns, and the reduction above the pivots
pub record Steps (m : ℤ) (S T : Stairs) (v : Vector) : Type 0 where
  pub x : ℤ
  pub y : ℤ
  pub z : ℤ
  pub kx : ℤ
  pub ky : ℤ
  pub kz : ℤ
  pub x_is : x ≡ v.x +ℤ m *ℤ kx
  pub y_is : y ≡ v.y +ℤ m *ℤ ky
  pub z_is : z ≡ v.z +ℤ m *ℤ kz
  pub b1 : ℤ
  pub c1 : ℤ
  pub y1 : ℤ
  pub z1 : ℤ
  pub f1 : ℤ
  pub g1 : ℤ
  pub z2 : ℤ
  pub g2 : ℤ
  pub j1 : ℤ
  pub j2 : ℤ
  pub j3 : ℤ
  pub j4 : ℤ
  pub one : Exchange m (vector S.first_x S.first_y S.first_z) (vector x y z) (vector T.first_x b1 c1) (vector (pos 0) y1 z1)
  pub two : Exchange m (vector S.second_y S.second_z (pos 0)) (vector y1 z1 (pos 0)) (vector T.second_y f1 g1) (vector (pos 0) z2 g2)
  pub three : Exchange m (vector S.third_z (pos 0) (pos 0)) (vector z2 (pos 0) (pos 0)) (vector T.third_z j1 j2) (vector (pos 0) j3 j4)
  pub q : ℤ
  pub kf : ℤ
  pub k1 : ℤ
  pub k2 : ℤ
  pub f_is : T.second_z ≡ f1 +ℤ T.third_z *ℤ kf
  pub b_is : T.first_y ≡ b1 -ℤ q *ℤ T.second_y
  pub c_is : T.first_z ≡ c1 -ℤ q *ℤ T.second_z +ℤ m *ℤ k1 +ℤ T.third_z *ℤ k2

-- a combination of zeros
nothing : (p q r s : ℤ) → pos 0 ≡ p *ℤ pos 0 +ℤ q *ℤ pos 0 +ℤ r *ℤ pos 0 +ℤ s *ℤ pos 0
nothing p q r s = simp ring refl

-- two terms, with zeros for two others
first_two : (p q r s a b w : ℤ) → w ≡ p *ℤ a +ℤ q *ℤ b → w ≡ p *ℤ a +ℤ q *ℤ b +ℤ r *ℤ pos 0 +ℤ s *ℤ pos 0
first_two p q r s a b w e = simp ring (omega (arith, linear, e))

-- three terms, with 0 for the fourth
first_three : (m p q r s a b w : ℤ) → w ≡ p *ℤ a +ℤ q *ℤ b +ℤ m *ℤ r → w ≡ p *ℤ a +ℤ q *ℤ b +ℤ r *ℤ m +ℤ s *ℤ pos 0
first_three m p q r s a b w e = simp ring (omega (arith, linear, e))

-- two terms and a fourth, with 0 for the third
all_four : (m p q r s a b w : ℤ) → w ≡ p *ℤ a +ℤ q *ℤ b +ℤ m *ℤ s → w ≡ p *ℤ a +ℤ q *ℤ b +ℤ r *ℤ pos 0 +ℤ s *ℤ m
all_four m p q r s a b w e = simp ring (omega (arith, linear, e))

module _ {L : Vector → Type 0} (h : IsClosed L) (m : ℤ) where
  -- a combination in the first column, in the second, and in the third
  in_first : (r v w : Vector) → L (vector (pos 0) m (pos 0)) → L (vector (pos 0) (pos 0) m) → L r → L v → Combo m r v w → L w
  in_first r v w i j lr lv c = four_in h c.p c.q c.s c.t r v (vector (pos 0) m (pos 0)) (vector (pos 0) (pos 0) m) w lr lv i j
      (first_two c.p c.q c.s c.t r.x v.x w.x c.x) (first_three m c.p c.q c.s c.t r.y v.y w.y c.y) (all_four m c.p c.q c.s c.t r.z v.z w.z c.z)

  -- in the second column
  in_second : (r v w : Vector) → L (vector (pos 0) (pos 0) m) → L (vector (pos 0) r.x r.y) → L (vector (pos 0) v.x v.y) → Combo m r v w
      → L (vector (pos 0) w.x w.y)
  in_second r v w j lr lv c = four_in h c.p c.q c.s (pos 0) (vector (pos 0) r.x r.y) (vector (pos 0) v.x v.y) (vector (pos 0) (pos 0) m)
      (vector (pos 0) (pos 0) m) (vector (pos 0) w.x w.y) lr lv j j
      (nothing c.p c.q c.s (pos 0)) (first_two c.p c.q c.s (pos 0) r.x v.x w.x c.x) (first_three' c.p c.q c.s r.y v.y w.y c.y)
    where
      first_three' : (p q r a b w : ℤ) → w ≡ p *ℤ a +ℤ q *ℤ b +ℤ m *ℤ r → w ≡ p *ℤ a +ℤ q *ℤ b +ℤ r *ℤ m +ℤ pos 0 *ℤ m
      first_three' p q r a b w e = simp ring (omega (arith, linear, e))

  -- a closed set with a member has 0
  zero_in : {u : Vector} → L u → L (vector (pos 0) (pos 0) (pos 0))
  zero_in {u} l = h.pair (pos 0) (pos 0) u u (vector (pos 0) (pos 0) (pos 0)) l l (simp ring refl) (simp ring refl) (simp ring refl)

  -- in the third column
  in_third : (r v w : Vector) → L (vector (pos 0) (pos 0) r.x) → L (vector (pos 0) (pos 0) v.x) → Combo m r v w → L (vector (pos 0) (pos 0) w.x)
  in_third r v w lr lv c = four_in h c.p c.q (pos 0) (pos 0) (vector (pos 0) (pos 0) r.x) (vector (pos 0) (pos 0) v.x) (vector (pos 0) (pos 0) (pos 0))
      (vector (pos 0) (pos 0) (pos 0)) (vector (pos 0) (pos 0) w.x) lr lv (zero_in lr) (zero_in lr)
      (nothing c.p c.q (pos 0) (pos 0)) (nothing c.p c.q (pos 0) (pos 0)) (first_two c.p c.q (pos 0) (pos 0) r.x v.x w.x c.x)

  -- a closed set with the third row has (0, 0, m)
  third_multiple : {S : Stairs} → HasBound S m → L (vector (pos 0) (pos 0) S.third_z) → L (vector (pos 0) (pos 0) m)
  third_multiple {S} b l = h.pair b.third_k (pos 0) (vector (pos 0) (pos 0) S.third_z) (vector (pos 0) (pos 0) S.third_z) (vector (pos 0) (pos 0) m) l l
      (simp ring refl)
      (simp ring refl) (let e = b.third_z in simp ring (omega (arith, linear, e)))

  -- with the second row too it has (0, m, 0)
  second_multiple : {S : Stairs} → HasBound S m → L (vector (pos 0) S.second_y S.second_z) → L (vector (pos 0) (pos 0) S.third_z) → L (vector (pos 0) m (pos 0))
  second_multiple {S} b l l' = h.pair b.second_k b.second_l (vector (pos 0) S.second_y S.second_z) (vector (pos 0) (pos 0) S.third_z)
      (vector (pos 0) m (pos 0)) l l'
      (simp ring refl) (let e = b.second_y in simp ring (omega (arith, linear, e))) b.second_z

  module _ {S T : Stairs} {v : Vector} (bound : HasBound S m) (t : Steps m S T v) where
    -- f before its reduction
    undo_f : (f f1 i k : ℤ) → f ≡ f1 +ℤ i *ℤ k → f1 ≡ pos 1 *ℤ f +ℤ neg_ℤ k *ℤ i
    undo_f f f1 i k e = simp ring (omega (arith, linear, e))

    -- f after it
    do_f : (f f1 i k : ℤ) → f ≡ f1 +ℤ i *ℤ k → f ≡ pos 1 *ℤ f1 +ℤ k *ℤ i
    do_f f f1 i k e = simp ring (omega (arith, linear, e))

    -- b before its reduction
    undo_b : (b b1 q e r s : ℤ) → b ≡ b1 -ℤ q *ℤ e → b1 ≡ pos 1 *ℤ b +ℤ q *ℤ e +ℤ r *ℤ pos 0 +ℤ s *ℤ pos 0
    undo_b b b1 q e r s h = simp ring (omega (arith, linear, h))

    -- b after it
    do_b : (b b1 q e r s : ℤ) → b ≡ b1 -ℤ q *ℤ e → b ≡ pos 1 *ℤ b1 +ℤ neg_ℤ q *ℤ e +ℤ r *ℤ pos 0 +ℤ s *ℤ pos 0
    do_b b b1 q e r s h = simp ring (omega (arith, linear, h))

    -- c before its reduction
    undo_c : (c c1 q f m k i l : ℤ) → c ≡ c1 -ℤ q *ℤ f +ℤ m *ℤ k +ℤ i *ℤ l → c1 ≡ pos 1 *ℤ c +ℤ q *ℤ f +ℤ neg_ℤ k *ℤ m +ℤ neg_ℤ l *ℤ i
    undo_c c c1 q f m k i l h = simp ring (omega (arith, linear, h))

    -- c after it
    do_c : (c c1 q f m k i l : ℤ) → c ≡ c1 -ℤ q *ℤ f +ℤ m *ℤ k +ℤ i *ℤ l → c ≡ pos 1 *ℤ c1 +ℤ neg_ℤ q *ℤ f +ℤ k *ℤ m +ℤ l *ℤ i
    do_c c c1 q f m k i l h = simp ring (omega (arith, linear, h))

    -- a is not changed by it
    same_a : (a q r s : ℤ) → a ≡ pos 1 *ℤ a +ℤ q *ℤ pos 0 +ℤ r *ℤ pos 0 +ℤ s *ℤ pos 0
    same_a a q r s = simp ring (omega (arith, linear))

    -- the first part of v, and of v modulo m
    x_part : (x v k r s : ℤ) → x ≡ v +ℤ m *ℤ k → (v ≡ pos 1 *ℤ x +ℤ neg_ℤ k *ℤ m +ℤ r *ℤ pos 0 +ℤ s *ℤ pos 0)
        × (x ≡ pos 1 *ℤ v +ℤ k *ℤ m +ℤ r *ℤ pos 0 +ℤ s *ℤ pos 0)
    x_part x v k r s h = (simp ring (omega (arith, linear, h)), simp ring (omega (arith, linear, h)))

    -- the second part
    y_part : (x v k r s : ℤ) → x ≡ v +ℤ m *ℤ k → (v ≡ pos 1 *ℤ x +ℤ r *ℤ pos 0 +ℤ neg_ℤ k *ℤ m +ℤ s *ℤ pos 0)
        × (x ≡ pos 1 *ℤ v +ℤ r *ℤ pos 0 +ℤ k *ℤ m +ℤ s *ℤ pos 0)
    y_part x v k r s h = (simp ring (omega (arith, linear, h)), simp ring (omega (arith, linear, h)))

    -- the third part
    z_part : (x v k r s : ℤ) → x ≡ v +ℤ m *ℤ k → (v ≡ pos 1 *ℤ x +ℤ r *ℤ pos 0 +ℤ s *ℤ pos 0 +ℤ neg_ℤ k *ℤ m)
        × (x ≡ pos 1 *ℤ v +ℤ r *ℤ pos 0 +ℤ s *ℤ pos 0 +ℤ k *ℤ m)
    z_part x v k r s h = (simp ring (omega (arith, linear, h)), simp ring (omega (arith, linear, h)))

    -- the new rows give the old ones
    pub old_of_new : HasRows L T → HasRows L S × L v
    old_of_new r =
        let third = in_third (vector T.third_z t.j1 t.j2) (vector (pos 0) t.j3 t.j4) (vector S.third_z (pos 0) (pos 0)) r.third
        (zero_in r.third) t.three.old_upper in
        let low3 = in_third (vector T.third_z t.j1 t.j2) (vector (pos 0) t.j3 t.j4) (vector t.z2 (pos 0) (pos 0)) r.third (zero_in r.third) t.three.old_lower in
        let m3 = third_multiple bound third in
        let up2 = h.pair (pos 1) (neg_ℤ t.kf) (vector (pos 0) T.second_y T.second_z) (vector (pos 0) (pos 0) T.third_z)
        (vector (pos 0) T.second_y t.f1) r.second r.third (simp ring refl)
        (simp ring (omega (arith, linear))) (undo_f T.second_z t.f1 T.third_z t.kf t.f_is) in
        let second = in_second (vector T.second_y t.f1 t.g1) (vector (pos 0) t.z2 t.g2) (vector S.second_y S.second_z (pos 0)) m3 up2 low3 t.two.old_upper in
        let low2 = in_second (vector T.second_y t.f1 t.g1) (vector (pos 0) t.z2 t.g2) (vector t.y1 t.z1 (pos 0)) m3 up2 low3 t.two.old_lower in
        let m2 = second_multiple bound second third in
        let up1 = four_in h (pos 1) t.q (neg_ℤ t.k1) (neg_ℤ t.k2) (vector T.first_x T.first_y T.first_z) (vector (pos 0) T.second_y T.second_z)
        (vector (pos 0) (pos 0) m)
        (vector (pos 0) (pos 0) T.third_z) (vector T.first_x t.b1 t.c1) r.first r.second m3 r.third
        (same_a T.first_x t.q (neg_ℤ t.k1) (neg_ℤ t.k2)) (undo_b T.first_y t.b1 t.q T.second_y (neg_ℤ t.k1) (neg_ℤ t.k2) t.b_is)
        (undo_c T.first_z t.c1 t.q T.second_z m t.k1 T.third_z t.k2 t.c_is) in
        let first = in_first (vector T.first_x t.b1 t.c1) (vector (pos 0) t.y1 t.z1) (vector S.first_x S.first_y S.first_z) m2 m3 up1 low2 t.one.old_upper in
        let low1 = in_first (vector T.first_x t.b1 t.c1) (vector (pos 0) t.y1 t.z1) (vector t.x t.y t.z) m2 m3 up1 low2 t.one.old_lower in
        let rows : HasRows L S = record { first = first; second = second; third = third } in
        let m1 = has_all h rows (vector m (pos 0) (pos 0)) bound.first in (
          rows,
          four_in h (pos 1) (neg_ℤ t.kx) (neg_ℤ t.ky) (neg_ℤ t.kz) (vector t.x t.y t.z) (vector m (pos 0) (pos 0)) (vector (pos 0) m (pos 0))
              (vector (pos 0) (pos 0) m) v low1 m1 m2 m3
              (x_part t.x v.x t.kx (neg_ℤ t.ky) (neg_ℤ t.kz) t.x_is).0 (y_part t.y v.y t.ky (neg_ℤ t.kx) (neg_ℤ t.kz) t.y_is).0
              (z_part t.z v.z t.kz (neg_ℤ t.kx) (neg_ℤ t.ky) t.z_is).0,
        )

    -- the old rows and v give the new ones
    pub new_of_old : HasRows L S → L v → HasRows L T
    new_of_old r l =
        let m3 = third_multiple bound r.third in let m2 = second_multiple bound r.second r.third in
        let m1 = has_all h r (vector m (pos 0) (pos 0)) bound.first in
        let low1 = four_in h (pos 1) t.kx t.ky t.kz v (vector m (pos 0) (pos 0)) (vector (pos 0) m (pos 0)) (vector (pos 0) (pos 0) m)
        (vector t.x t.y t.z) l m1 m2 m3
        (x_part t.x v.x t.kx t.ky t.kz t.x_is).1 (y_part t.y v.y t.ky t.kx t.kz t.y_is).1 (z_part t.z v.z t.kz t.kx t.ky t.z_is).1 in
        let up1 = in_first (vector S.first_x S.first_y S.first_z) (vector t.x t.y t.z) (vector T.first_x t.b1 t.c1) m2 m3 r.first low1 t.one.upper in
        let low2 = in_first (vector S.first_x S.first_y S.first_z) (vector t.x t.y t.z) (vector (pos 0) t.y1 t.z1) m2 m3 r.first low1 t.one.lower in
        let up2 = in_second (vector S.second_y S.second_z (pos 0)) (vector t.y1 t.z1 (pos 0)) (vector T.second_y t.f1 t.g1) m3 r.second low2 t.two.upper in
        let low3 = in_second (vector S.second_y S.second_z (pos 0)) (vector t.y1 t.z1 (pos 0)) (vector (pos 0) t.z2 t.g2) m3 r.second low2 t.two.lower in
        let third = in_third (vector S.third_z (pos 0) (pos 0)) (vector t.z2 (pos 0) (pos 0)) (vector T.third_z t.j1 t.j2) r.third low3 t.three.upper in
        let second = h.pair (pos 1) t.kf (vector (pos 0) T.second_y t.f1) (vector (pos 0) (pos 0) T.third_z)
        (vector (pos 0) T.second_y T.second_z) up2 third (simp ring refl)
        (simp ring (omega (arith, linear))) (do_f T.second_z t.f1 T.third_z t.kf t.f_is) in
        record {
          first = four_in h (pos 1) (neg_ℤ t.q) t.k1 t.k2 (vector T.first_x t.b1 t.c1) (vector (pos 0) T.second_y T.second_z) (vector (pos 0) (pos 0) m)
              (vector (pos 0) (pos 0) T.third_z) (vector T.first_x T.first_y T.first_z) up1 second m3 third
              (same_a T.first_x (neg_ℤ t.q) t.k1 t.k2) (do_b T.first_y t.b1 t.q T.second_y t.k1 t.k2 t.b_is)
              (do_c T.first_z t.c1 t.q T.second_z m t.k1 T.third_z t.k2 t.c_is);
          second = second;
          third = third;
        }

-- a sum with 0 times a number
plain_sum : (x v : ℤ) → x ≡ x +ℤ pos 0 *ℤ v
plain_sum x v = simp ring (omega (arith, linear))

-- 0 and 1 times a number
zero_sum : (v : ℤ) → v ≡ pos 0 +ℤ pos 1 *ℤ v
zero_sum v = simp ring (omega (arith, linear))

-- 1 times a term
own : (u k v w : ℤ) → w ≡ u +ℤ k *ℤ v → w ≡ pos 1 *ℤ u +ℤ k *ℤ v
own u k v w e = simp ring (omega (arith, linear, e))

-- 0 is a member
pub zero_member : (S : Stairs) → InStairs S (vector (pos 0) (pos 0) (pos 0))
zero_member S = record { k = pos 0; l = pos 0; n = pos 0; x = simp ring refl; y = simp ring refl; z = simp ring refl }

-- a member is a sum with 0 times v
in_sum : {S : Stairs} (v u : Vector) → InStairs S u → InSum S v u
in_sum v u m = record { k = pos 0; u = u; member = m; x = plain_sum u.x v.x; y = plain_sum u.y v.y; z = plain_sum u.z v.z }

-- the new lattice is the old one with all multiples of v added
pub steps_with : {m : ℤ} {S T : Stairs} {v : Vector} → HasBound S m → Steps m S T v → HasAdded S T v
steps_with {m} {S} {T} {v} b t =
    let o = own_rows S in
    record {
      out = λ w i. has_all {L = InSum S v} (sum_closed S v) (new_of_old (sum_closed S v) m b t
          (record { first = in_sum v _ o.first; second = in_sum v _ o.second; third = in_sum v _ o.third })
          (record { k = pos 1; u = vector (pos 0) (pos 0) (pos 0); member = zero_member S; x = zero_sum v.x; y = zero_sum v.y; z = zero_sum v.z })) w i;
      into = λ w s.
          let r = old_of_new (stairs_closed T) m b t (own_rows T) in
          (stairs_closed T).pair (pos 1) s.k s.u v w (has_all {L = InStairs T} (stairs_closed T) r.0 s.u s.member) r.1 (own s.u.x s.k v.x w.x s.x)
          (own s.u.y s.k v.y w.y s.y) (own s.u.z s.k v.z w.z s.z);
    }

-- a multiple of a positive number is 0 only for the factor 0
pub zero_factor : (k a : ℤ) → pos 0 ≡ k *ℤ a → pos 0 <ℤ a → k ≡ pos 0
zero_factor k a e p = other_factor_zero a k (simp ring (omega (arith, linear, e))) (positive_is_some a p)

-- a term with the factor 0 falls away
drop_zero : (k b w r : ℤ) → k ≡ pos 0 → w ≡ k *ℤ b +ℤ r → w ≡ r
drop_zero k b w r e f = f ∙ ap (λ t. t *ℤ b +ℤ r) e ∙ simp ring (omega (arith, linear))

-- two such terms fall away
drop_two : (k l b c w r : ℤ) → k ≡ pos 0 → l ≡ pos 0 → w ≡ k *ℤ b +ℤ l *ℤ c +ℤ r → w ≡ r
drop_two k l b c w r e g f = f ∙ ap (λ t. t *ℤ b +ℤ l *ℤ c +ℤ r) e ∙ ap (λ t. pos 0 *ℤ b +ℤ t *ℤ c +ℤ r) g ∙ simp ring (omega (arith, linear))

-- the first of three terms falls away
drop_first : (k b l c w r : ℤ) → k ≡ pos 0 → w ≡ k *ℤ b +ℤ l *ℤ c +ℤ r → w ≡ l *ℤ c +ℤ r
drop_first k b l c w r e f = f ∙ ap (λ t. t *ℤ b +ℤ l *ℤ c +ℤ r) e ∙ simp ring (omega (arith, linear))

-- the new lattice still has the multiples of m
pub steps_bound : {m : ℤ} {S T : Stairs} {v : Vector} → HasBound S m → Steps m S T v → pos 0 <ℤ T.first_x → pos 0 <ℤ T.second_y → HasBound T m
steps_bound {m} {S} {T} {v} b t pa pe =
    let h = stairs_closed T in let r = (old_of_new h m b t (own_rows T)).0 in
    let i = second_multiple h m b r.second r.third in let j = third_multiple h m b r.third in
    let ki = zero_factor i.k T.first_x i.x pa in let kj = zero_factor j.k T.first_x j.x pa in
    let lj = zero_factor j.l T.second_y (drop_zero j.k T.first_y (pos 0) (j.l *ℤ T.second_y) kj j.y) pe in
    record {
      first = has_all {L = InStairs T} h r (vector m (pos 0) (pos 0)) b.first;
      second_k = i.l;
      second_l = i.n;
      second_y = drop_zero i.k T.first_y m (i.l *ℤ T.second_y) ki i.y;
      second_z = drop_first i.k T.first_z i.l T.second_z (pos 0) (i.n *ℤ T.third_z) ki i.z;
      third_k = j.n;
      third_z = drop_two j.k j.l T.first_z T.second_z m (j.n *ℤ T.third_z) kj lj j.z;
    }

-- what a column of Euclid's algorithm ensures
pub record Column (m : ℤ) (u v r w : Vector) : Type 0 where
  pub upper : IsBoxed m r
  pub lower : IsBoxed m w
  pub pivot : pos 0 <ℤ r.x
  pub same : Exchange m u v r w

-- r is z, between 0 and m, up to multiples of m
pub record Modulo (z m r : ℤ) : Type 0 where
  pub from : pos 0 ≤ℤ r
  pub to : r <ℤ m
  pub same : (k : ℤ) × (r ≡ z +ℤ m *ℤ k)

-- the two steps of the reduction of c, in one equation
last : (c c0 c1 q f m k i l : ℤ) → c0 ≡ c1 -ℤ q *ℤ f +ℤ m *ℤ k → c ≡ c0 +ℤ i *ℤ l → c ≡ c1 -ℤ q *ℤ f +ℤ m *ℤ k +ℤ i *ℤ l
last c c0 c1 q f m k i l e g = omega (arith, linear, e, g)

-- the steps together make an insertion
pub assemble : (m : ℤ) (S : Stairs) (v : Vector) (x y z a b1 c1 y1 z1 e f1 g1 z2 g2 i j1 j2 j3 j4 f q b c0 c : ℤ)
    → IsBoundedStair m S → Modulo v.x m x → Modulo v.y m y → Modulo v.z m z
    → Column m (vector S.first_x S.first_y S.first_z) (vector x y z) (vector a b1 c1) (vector (pos 0) y1 z1)
    → Column m (vector S.second_y S.second_z (pos 0)) (vector y1 z1 (pos 0)) (vector e f1 g1) (vector (pos 0) z2 g2)
    → Column m (vector S.third_z (pos 0) (pos 0)) (vector z2 (pos 0) (pos 0)) (vector i j1 j2) (vector (pos 0) j3 j4)
    → Modulo f1 i f → pos 0 ≤ℤ b → b <ℤ e → b ≡ b1 -ℤ q *ℤ e → Modulo (c1 -ℤ q *ℤ f) m c0 → Modulo c0 i c
    → IsInserted m S (stairs a b c e f i) v
assemble m S v x y z a b1 c1 y1 z1 e f1 g1 z2 g2 i j1 j2 j3 j4 f q b c0 c k hx hy hz one two three hf b_from b_to hb h0 hc =
    let steps : Steps m S (stairs a b c e f i) v = record {
      x = x;
      y = y;
      z = z;
      kx = hx.same.0;
      ky = hy.same.0;
      kz = hz.same.0;
      x_is = hx.same.1;
      y_is = hy.same.1;
      z_is = hz.same.1;
      b1 = b1;
      c1 = c1;
      y1 = y1;
      z1 = z1;
      f1 = f1;
      g1 = g1;
      z2 = z2;
      g2 = g2;
      j1 = j1;
      j2 = j2;
      j3 = j3;
      j4 = j4;
      one = one.same;
      two = two.same;
      three = three.same;
      q = q;
      kf = hf.same.0;
      k1 = h0.same.0;
      k2 = hc.same.0;
      f_is = hf.same.1;
      b_is = hb;
      c_is = last c c0 c1 q f m h0.same.0 i hc.same.0 h0.same.1 hc.same.1;
    } in
    record {
      kept = record {
        m_from = k.m_from;
        m_to = k.m_to;
        reduced = record {
          first_x = one.pivot;
          second_y = two.pivot;
          third_z = three.pivot;
          first_y_from = b_from;
          first_y_to = b_to;
          first_z_from = hc.from;
          first_z_to = hc.to;
          second_z_from = hf.from;
          second_z_to = hf.to;
        };
        bound = steps_bound k.bound steps one.pivot two.pivot;
        first_x_to = one.upper.x_to;
        second_y_to = two.upper.x_to;
        third_z_to = three.upper.x_to;
      };
      added = steps_with k.bound steps;
    }
