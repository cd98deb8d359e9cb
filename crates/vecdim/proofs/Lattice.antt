-- The lattice that a stair of rows generates, and combinations of two vectors, up to multiples of m.
use Rattle.std.proofs.Common.{◌≡◌, ℤ, pos, ◌+ℤ◌, ◌*ℤ◌, refl, ap, ◌∙◌, arith, ◌-ℤ◌, neg_ℤ, ◌<ℤ◌, ◌≤ℤ◌}
use Rattle.std.proofs.lemmas.Int.{ints}
use Rattle.integers.proofs.numbers.Ring.{ring, linear}
use Rattle.integers.specs.Vectors.{Vector, plus, times, vector}
use Rattle.vecdim.specs.{Stairs.InStairs, Stairs.Stairs, Steps.InSum, Steps.Combo, Steps.Exchange, Steps.IsBoxed}

-- a pair of multiples of one number
one_term : (p q k l a x y w : ℤ) → x ≡ k *ℤ a → y ≡ l *ℤ a → w ≡ p *ℤ x +ℤ q *ℤ y → w ≡ (p *ℤ k +ℤ q *ℤ l) *ℤ a
one_term p q k l a x y w e f g =
    let e' = ap (λ t. p *ℤ t) e in let f' = ap (λ t. q *ℤ t) f in simp ring (omega (arith, linear, g, e', f'))

-- a pair of combinations of two numbers
pub two_terms : (p q k k' l l' a b x y w : ℤ) → x ≡ k *ℤ a +ℤ k' *ℤ b → y ≡ l *ℤ a +ℤ l' *ℤ b → w ≡ p *ℤ x +ℤ q *ℤ y
    → w ≡ (p *ℤ k +ℤ q *ℤ l) *ℤ a +ℤ (p *ℤ k' +ℤ q *ℤ l') *ℤ b
two_terms p q k k' l l' a b x y w e f g =
    let e' = ap (λ t. p *ℤ t) e in let f' = ap (λ t. q *ℤ t) f in
    simp ring (omega (arith, linear, g, simp ring at e', simp ring at f'))

-- a pair of combinations of three numbers
three_terms : (p q k k' k'' l l' l'' a b c x y w : ℤ) → x ≡ k *ℤ a +ℤ k' *ℤ b +ℤ k'' *ℤ c → y ≡ l *ℤ a +ℤ l' *ℤ b +ℤ l'' *ℤ c → w ≡ p *ℤ x +ℤ q *ℤ y
    → w ≡ (p *ℤ k +ℤ q *ℤ l) *ℤ a +ℤ (p *ℤ k' +ℤ q *ℤ l') *ℤ b +ℤ (p *ℤ k'' +ℤ q *ℤ l'') *ℤ c
three_terms p q k k' k'' l l' l'' a b c x y w e f g =
    let e' = ap (λ t. p *ℤ t) e in let f' = ap (λ t. q *ℤ t) f in
    simp ring (omega (arith, linear, g, simp ring at e', simp ring at f'))

-- the members of a stair are closed under combinations of two
pub in_pair : {S : Stairs} {u v w : Vector} (p q : ℤ) → InStairs S u → InStairs S v → w.x ≡ p *ℤ u.x +ℤ q *ℤ v.x → w.y ≡ p *ℤ u.y +ℤ q *ℤ v.y
    → w.z ≡ p *ℤ u.z +ℤ q *ℤ v.z → InStairs S w
in_pair {S} {u} {v} {w} p q h i ex ey ez = record {
  k = p *ℤ h.k +ℤ q *ℤ i.k;
  l = p *ℤ h.l +ℤ q *ℤ i.l;
  n = p *ℤ h.n +ℤ q *ℤ i.n;
  x = one_term p q h.k i.k S.first_x u.x v.x w.x h.x i.x ex;
  y = two_terms p q h.k h.l i.k i.l S.first_y S.second_y u.y v.y w.y h.y i.y ey;
  z = three_terms p q h.k h.l h.n i.k i.l i.n S.first_z S.second_z S.third_z u.z v.z w.z h.z i.z ez;
}

-- a set of vectors that is closed under sums and multiples
pub record IsClosed (L : Vector → Type 0) : Type 0 where
  pub pair : (p q : ℤ) (u v w : Vector) → L u → L v → w.x ≡ p *ℤ u.x +ℤ q *ℤ v.x → w.y ≡ p *ℤ u.y +ℤ q *ℤ v.y → w.z ≡ p *ℤ u.z +ℤ q *ℤ v.z → L w

-- so they are a closed set
pub stairs_closed : (S : Stairs) → IsClosed (InStairs S)
stairs_closed S = record { pair = λ p q u v w h i ex ey ez. in_pair {S = S} {u = u} {v = v} {w = w} p q h i ex ey ez }

-- a combination of two sums is a sum
shifted : (p q k l a b v x y w : ℤ) → x ≡ a +ℤ k *ℤ v → y ≡ b +ℤ l *ℤ v → w ≡ p *ℤ x +ℤ q *ℤ y → w ≡ (p *ℤ a +ℤ q *ℤ b) +ℤ (p *ℤ k +ℤ q *ℤ l) *ℤ v
shifted p q k l a b v x y w e f g =
    let e' = ap (λ t. p *ℤ t) e in let f' = ap (λ t. q *ℤ t) f in
    simp ring (omega (arith, linear, g, simp ring at e', simp ring at f'))

-- the sums of members and multiples of v are a closed set
pub sum_closed : (S : Stairs) (v : Vector) → IsClosed (InSum S v)
sum_closed S v = record {
  pair = λ p q x y w h i ex ey ez. record {
    k = p *ℤ h.k +ℤ q *ℤ i.k;
    u = plus (times p h.u) (times q i.u);
    member = in_pair {S = S} {u = h.u} {v = i.u} {w = plus (times p h.u) (times q i.u)} p q h.member i.member refl refl refl;
    x = shifted p q h.k i.k h.u.x i.u.x v.x x.x y.x w.x h.x i.x ex;
    y = shifted p q h.k i.k h.u.y i.u.y v.y x.y y.y w.y h.y i.y ey;
    z = shifted p q h.k i.k h.u.z i.u.z v.z x.z y.z w.z h.z i.z ez;
  };
}

-- a closed set has each combination of four of its members
pub four_in : {L : Vector → Type 0} → IsClosed L → (p q r s : ℤ) (a b c d w : Vector) → L a → L b → L c → L d
    → w.x ≡ p *ℤ a.x +ℤ q *ℤ b.x +ℤ r *ℤ c.x +ℤ s *ℤ d.x
    → w.y ≡ p *ℤ a.y +ℤ q *ℤ b.y +ℤ r *ℤ c.y +ℤ s *ℤ d.y
    → w.z ≡ p *ℤ a.z +ℤ q *ℤ b.z +ℤ r *ℤ c.z +ℤ s *ℤ d.z
    → L w
four_in h p q r s a b c d w ia ib ic id ex ey ez =
    h.pair (pos 1) (pos 1) (plus (times p a) (times q b)) (plus (times r c) (times s d)) w
    (h.pair p q a b (plus (times p a) (times q b)) ia ib refl refl refl)
    (h.pair r s c d (plus (times r c) (times s d)) ic id refl refl refl)
    (simp ring (omega (arith, linear, ex))) (simp ring (omega (arith, linear, ey))) (simp ring (omega (arith, linear, ez)))

-- a set has the three rows of a stair
pub record HasRows (L : Vector → Type 0) (S : Stairs) : Type 0 where
  pub first : L (vector S.first_x S.first_y S.first_z)
  pub second : L (vector (pos 0) S.second_y S.second_z)
  pub third : L (vector (pos 0) (pos 0) S.third_z)

-- the second and third row have 0 for first part
no_x : (k l n a : ℤ) → k *ℤ a ≡ k *ℤ a +ℤ l *ℤ pos 0 +ℤ n *ℤ pos 0 +ℤ pos 0 *ℤ pos 0
no_x k l n a = simp ring (omega (arith, linear))

-- the third row has 0 for second part
no_y : (k l n b e : ℤ) → k *ℤ b +ℤ l *ℤ e ≡ k *ℤ b +ℤ l *ℤ e +ℤ n *ℤ pos 0 +ℤ pos 0 *ℤ pos 0
no_y k l n b e = simp ring (omega (arith, linear))

-- a combination of three, with a fourth term that is 0
no_z : (k l n c f i : ℤ) → k *ℤ c +ℤ l *ℤ f +ℤ n *ℤ i ≡ k *ℤ c +ℤ l *ℤ f +ℤ n *ℤ i +ℤ pos 0 *ℤ i
no_z k l n c f i = simp ring (omega (arith, linear))

-- it has all that the rows generate
pub has_all : {L : Vector → Type 0} {S : Stairs} → IsClosed L → HasRows L S → (w : Vector) → InStairs S w → L w
has_all {L} {S} h r w i = four_in h i.k i.l i.n (pos 0) (vector S.first_x S.first_y S.first_z) (vector (pos 0) S.second_y S.second_z)
    (vector (pos 0) (pos 0) S.third_z)
    (vector (pos 0) (pos 0) S.third_z) w r.first r.second r.third r.third
    (i.x ∙ no_x i.k i.l i.n S.first_x) (i.y ∙ no_y i.k i.l i.n S.first_y S.second_y) (i.z ∙ no_z i.k i.l i.n S.first_z S.second_z S.third_z)

-- a number is 1 times itself
row : (a : ℤ) → a ≡ pos 1 *ℤ a
row a = simp ring refl

-- the rows of a stair are members
pub own_rows : (S : Stairs) → HasRows (InStairs S) S
own_rows S = record {
  first = record {
    k = pos 1;
    l = pos 0;
    n = pos 0;
    x = simp ring (omega (arith, linear));
    y = simp ring (omega (arith, linear));
    z = simp ring (omega (arith, linear));
  };
  second = record {
    k = pos 0;
    l = pos 1;
    n = pos 0;
    x = simp ring (omega (arith, linear));
    y = simp ring (omega (arith, linear));
    z = simp ring (omega (arith, linear));
  };
  third = record {
    k = pos 0;
    l = pos 0;
    n = pos 1;
    x = simp ring (omega (arith, linear));
    y = simp ring (omega (arith, linear));
    z = simp ring (omega (arith, linear));
  };
}

-- the later parts, up to multiples of m
tail : (m p q s pr qr sr pv qv sv ry vy ay by wy : ℤ) → ay ≡ pr *ℤ ry +ℤ qr *ℤ vy +ℤ m *ℤ sr → by ≡ pv *ℤ ry +ℤ qv *ℤ vy +ℤ m *ℤ sv
    → wy ≡ p *ℤ ay +ℤ q *ℤ by +ℤ m *ℤ s
    → wy ≡ (p *ℤ pr +ℤ q *ℤ pv) *ℤ ry +ℤ (p *ℤ qr +ℤ q *ℤ qv) *ℤ vy +ℤ m *ℤ (p *ℤ sr +ℤ q *ℤ sv +ℤ s)
tail m p q s pr qr sr pv qv sv ry vy ay by wy e f g =
    let e' = ap (λ t. p *ℤ t) e in let f' = ap (λ t. q *ℤ t) f in
    simp ring (omega (arith, linear, g, simp ring at e', simp ring at f'))

-- a combination of combinations is a combination
pub combo_of_combos : {m : ℤ} {r v a b w : Vector} → Combo m a b w → Combo m r v a → Combo m r v b → Combo m r v w
combo_of_combos {m} {r} {v} {a} {b} {w} h e f = record {
  p = h.p *ℤ e.p +ℤ h.q *ℤ f.p;
  q = h.p *ℤ e.q +ℤ h.q *ℤ f.q;
  s = h.p *ℤ e.s +ℤ h.q *ℤ f.s +ℤ h.s;
  t = h.p *ℤ e.t +ℤ h.q *ℤ f.t +ℤ h.t;
  x = two_terms h.p h.q e.p e.q f.p f.q r.x v.x a.x b.x w.x e.x f.x h.x;
  y = tail m h.p h.q h.s e.p e.q e.s f.p f.q f.s r.y v.y a.y b.y w.y e.y f.y h.y;
  z = tail m h.p h.q h.t e.p e.q e.t f.p f.q f.t r.z v.z a.z b.z w.z e.z f.z h.z;
}

-- the first of two vectors
pub combo_first : (m : ℤ) (r v : Vector) → Combo m r v r
combo_first m r v = record {
  p = pos 1;
  q = pos 0;
  s = pos 0;
  t = pos 0;
  x = simp ring (omega (arith, linear));
  y = simp ring (omega (arith, linear));
  z = simp ring (omega (arith, linear));
}

-- the second
pub combo_second : (m : ℤ) (r v : Vector) → Combo m r v v
combo_second m r v = record {
  p = pos 0;
  q = pos 1;
  s = pos 0;
  t = pos 0;
  x = simp ring (omega (arith, linear));
  y = simp ring (omega (arith, linear));
  z = simp ring (omega (arith, linear));
}

-- a pair generates the same as itself
pub exchange_refl : (m : ℤ) (r v : Vector) → Exchange m r v r v
exchange_refl m r v = record { upper = combo_first m r v; lower = combo_second m r v; old_upper = combo_first m r v; old_lower = combo_second m r v }

-- one exchange and another
pub exchange_trans : {m : ℤ} {r v r' v' r'' v'' : Vector} → Exchange m r v r' v' → Exchange m r' v' r'' v'' → Exchange m r v r'' v''
exchange_trans g h = search (arith, combo_of_combos)

-- one step of Euclid
pub exchange_step : {m : ℤ} {r v w : Vector} (q k l : ℤ) → w.x ≡ r.x -ℤ q *ℤ v.x → w.y ≡ r.y -ℤ q *ℤ v.y +ℤ m *ℤ k → w.z ≡ r.z -ℤ q *ℤ v.z +ℤ m *ℤ l
    → Exchange m r v v w
exchange_step {m} {r} {v} {w} q k l ex ey ez = record {
  upper = combo_second m r v;
  lower = record {
    p = pos 1;
    q = neg_ℤ q;
    s = k;
    t = l;
    x = simp ring (omega (arith, linear, ex));
    y = simp ring (omega (arith, linear, ey));
    z = simp ring (omega (arith, linear, ez));
  };
  old_upper = record {
    p = q;
    q = pos 1;
    s = neg_ℤ k;
    t = neg_ℤ l;
    x = simp ring (omega (arith, linear, ex));
    y = simp ring (omega (arith, linear, ey));
    z = simp ring (omega (arith, linear, ez));
  };
  old_lower = combo_first m v w;
}

-- what the loop keeps
pub record Kept (m : ℤ) (u v r w : Vector) : Type 0 where
  pub same : Exchange m u v r w
  pub upper : IsBoxed m r
  pub lower : IsBoxed m w
  pub pivot : pos 0 <ℤ r.x

-- it holds at the start
pub kept_start : {m : ℤ} {u v : Vector} → IsBoxed m u → IsBoxed m v → pos 0 <ℤ u.x → Kept m u v u v
kept_start {m} {u} {v} h i p = record { same = exchange_refl m u v; upper = h; lower = i; pivot = p }

-- and after a step
pub kept_step : {m : ℤ} {u v r w t : Vector} → Kept m u v r w → t.x <ℤ w.x → IsBoxed m t → Exchange m r w w t → Kept m u v w t
kept_step {m} {u} {v} {r} {w} {t} h less box e = record { same = exchange_trans h.same e; upper = h.lower; lower = box; pivot = above (box.x_from) less }
  where
    above : {x y : ℤ} → pos 0 ≤ℤ x → x <ℤ y → pos 0 <ℤ y
    above f l = omega (arith, ints)
