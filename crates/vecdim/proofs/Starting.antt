-- The lattice of the multiples of b, and flat lattices.
use Rattle.std.proofs.Common.{◌≡◌, ℕ, ℤ, pos, ◌+ℤ◌, ◌*ℤ◌, ◌<ℤ◌, ◌≤ℤ◌, ◌^◌, refl, sym, ap, subst, ◌∙◌, arith}
use Rattle.std.{specs.Prelude.cond, specs.Prelude.◌==◌, specs.Prelude.Bool, proofs.lemmas.Bool.ne_eqb, proofs.lemmas.Int.ints}
use Rattle.integers.{proofs.numbers.Ring.ring, proofs.numbers.Ring.linear, proofs.vectors.Laws.vector_equal, specs.Vectors.Vector, specs.Vectors.vector}
use Rattle.vecdim.{specs.Lattices.Members, specs.Lattices.AreMultiples, specs.Stairs.HasFlatEnd, specs.Stairs.Stairs, specs.Stairs.stairs}
use Rattle.vecdim.{specs.Steps.HasBound, specs.Steps.IsInserted, specs.Steps.IsBoundedStair, proofs.Stairway.third_least, proofs.Lattice.own_rows}

-- the multiples of b belong to it
start_bound : (b last k : ℤ) → b ≡ k *ℤ last → HasBound (stairs b (pos 0) (pos 0) b (pos 0) last) b
start_bound b last k e = record {
  first = record { k = pos 1; l = pos 0; n = pos 0; x = simp ring refl; y = omega (arith, ints); z = omega (arith, ints) };
  second_k = pos 1;
  second_l = pos 0;
  second_y = simp ring refl;
  second_z = omega (arith, ints);
  third_k = k;
  third_z = e;
}

-- what holds of it
pub start_kept : (b last k : ℤ) → pos 0 <ℤ b → b <ℤ pos (2 ^ 60) → pos 0 <ℤ last → last ≤ℤ b → b ≡ k *ℤ last
    → IsBoundedStair b (stairs b (pos 0) (pos 0) b (pos 0) last)
start_kept b last k h i l m e = record {
  m_from = h;
  m_to = omega (arith, linear, i);
  reduced = record {
    first_x = h;
    second_y = h;
    third_z = l;
    first_y_from = omega (arith, linear);
    first_y_to = h;
    first_z_from = omega (arith, linear);
    first_z_to = l;
    second_z_from = omega (arith, linear);
    second_z_to = l;
  };
  bound = start_bound b last k e;
  first_x_to = omega (arith, linear);
  second_y_to = omega (arith, linear);
  third_z_to = m;
}

-- a positive number that is at most 1 is 1
one_or : (i s : ℤ) → pos 0 <ℤ i → i ≤ℤ s → s ≡ pos 1 → i ≡ pos 1
one_or i s h j e = omega (arith, linear, ints, h, j, e)

-- an insertion keeps the last row (0, 0, 1)
pub flat_kept : {m : ℤ} {S T : Stairs} {v : Vector} → HasFlatEnd S → IsInserted m S T v → HasFlatEnd T
flat_kept {m} {S} {T} {v} h n =
    let r = n.kept.reduced in let s = own_rows S in
    let t = n.added.into (vector (pos 0) (pos 0) S.third_z)
    (record {
      k = pos 0;
      u = vector (pos 0) (pos 0) S.third_z;
      member = s.third;
      x = simp ring refl;
      y = simp ring refl;
      z = simp ring (omega (arith, linear));
    }) in
    let e = one_or T.third_z S.third_z r.third_z (third_least (vector (pos 0) (pos 0) S.third_z) r t refl refl (subst (λ t. pos 0 <ℤ t) (sym h.third_z)
    (omega (arith, ints)))) h.third_z in
    record {
      first_z = omega (arith, linear, ints, e, r.first_z_from, r.first_z_to);
      second_z = omega (arith, linear, ints, e, r.second_z_from, r.second_z_to);
      third_z = e;
    }

-- in dimension 2 its last row is (0, 0, 1)
pub flat_start : (b last : ℤ) → last ≡ pos 1 → HasFlatEnd (stairs b (pos 0) (pos 0) b (pos 0) last)
flat_start b last e = record { first_z = refl; second_z = refl; third_z = e }

-- with (0, 0, 1) for the last row
pub start_one : (b last : ℤ) → pos 0 <ℤ b → b <ℤ pos (2 ^ 60) → last ≡ pos 1 → IsBoundedStair b (stairs b (pos 0) (pos 0) b (pos 0) last)
start_one b last h i e = start_kept b last b h i (subst (λ t. pos 0 <ℤ t) (sym e) (omega (arith, ints))) (subst (λ t. t ≤ℤ b) (sym e) (omega (arith, ints, h)))
    (subst (λ t. b ≡ b *ℤ t) (sym e) (simp ring refl))

-- with (0, 0, b) for the last row
pub start_same : (b last : ℤ) → pos 0 <ℤ b → b <ℤ pos (2 ^ 60) → last ≡ b → IsBoundedStair b (stairs b (pos 0) (pos 0) b (pos 0) last)
start_same b last h i e = start_kept b last (pos 1) h i (subst (λ t. pos 0 <ℤ t) (sym e) h) (omega (arith, linear, e)) (omega (arith, ints, e))

-- the last part of a flat staircase's list
pub flat_last : (d : ℕ) (i : ℤ) → d ≡ 2 → cond (d == 2) (pos 0) i ≡ pos 0
flat_last d i e = ap (λ (t : ℕ). cond (t == 2) (pos 0) i) e

-- and of another's
pub full_last : (d : ℕ) (i : ℤ) → (d ≡ 2 → ⊥) → cond (d == 2) (pos 0) i ≡ i
full_last d i n = ap (λ (b : Bool). cond b (pos 0) i) (ne_eqb d 2 n)

-- a multiple, with the factors exchanged
turned : (w k b : ℤ) → w ≡ k *ℤ b → w ≡ b *ℤ k
turned w k b e = simp ring (omega (arith, linear, e))

-- the second part of a combination of such rows
second_turned : (w k l b : ℤ) → w ≡ k *ℤ pos 0 +ℤ l *ℤ b → w ≡ b *ℤ l
second_turned w k l b e = simp ring (omega (arith, linear, simp ring at e))

-- the third part
third_turned : (w k l n b : ℤ) → w ≡ k *ℤ pos 0 +ℤ l *ℤ pos 0 +ℤ n *ℤ b → w ≡ b *ℤ n
third_turned w k l n b e = simp ring (omega (arith, linear, simp ring at e))

-- and back
second_back : (w k l b : ℤ) → w ≡ b *ℤ l → w ≡ k *ℤ pos 0 +ℤ l *ℤ b
second_back w k l b e = e ∙ simp ring (omega (arith, linear))

-- of the third part
third_back : (w k l n b : ℤ) → w ≡ b *ℤ n → w ≡ k *ℤ pos 0 +ℤ l *ℤ pos 0 +ℤ n *ℤ b
third_back w k l n b e = e ∙ simp ring (omega (arith, linear))

-- the combinations of (b, 0, 0), (0, b, 0) and (0, 0, b)
pub start_multiples : (d : ℕ) (b last : ℤ) → last ≡ b → AreMultiples d b (Members d (stairs b (pos 0) (pos 0) b (pos 0) last))
start_multiples d b last o w dim = (
  λ m.
      let i = m.0 in
      let z : w.z ≡ i.k *ℤ pos 0 +ℤ i.l *ℤ pos 0 +ℤ i.n *ℤ b = i.z ∙ ap (λ (t : ℤ). i.k *ℤ pos 0 +ℤ i.l *ℤ pos 0 +ℤ i.n *ℤ t) o in
      (vector i.k i.l i.n, vector_equal (turned w.x i.k b i.x) (second_turned w.y i.k i.l b i.y) (third_turned w.z i.k i.l i.n b z)),
  λ m.
      let u = m.0 in let x = ap (λ (t : Vector). t.x) m.1 in let y = ap (λ (t : Vector). t.y) m.1 in
      let z = ap (λ (t : Vector). t.z) m.1 in (
        record {
          k = u.x;
          l = u.y;
          n = u.z;
          x = turned w.x b u.x x;
          y = second_back w.y u.x u.y b y;
          z = third_back w.z u.x u.y u.z b z ∙ ap (λ (t : ℤ). u.x *ℤ pos 0 +ℤ u.y *ℤ pos 0 +ℤ u.z *ℤ t) (sym o);
        },
        dim,
      ),
)

-- 0 as a multiple
zero_multiple : (w b : ℤ) → w ≡ pos 0 → w ≡ b *ℤ pos 0
zero_multiple w b e = simp ring (omega (arith, linear, e))

-- the flat combinations of (b, 0, 0), (0, b, 0) and (0, 0, 1)
pub flat_multiples : (d : ℕ) (b last : ℤ) → d ≡ 2 → last ≡ pos 1 → AreMultiples d b (Members d (stairs b (pos 0) (pos 0) b (pos 0) last))
flat_multiples d b last two o w dim = (
  λ m.
      let i = m.0 in
      (vector i.k i.l (pos 0), vector_equal (turned w.x i.k b i.x) (second_turned w.y i.k i.l b i.y) (zero_multiple w.z b (dim two))),
  λ m.
      let u = m.0 in let x = ap (λ (t : Vector). t.x) m.1 in
      let y = ap (λ (t : Vector). t.y) m.1 in (
        record {
          k = u.x;
          l = u.y;
          n = w.z;
          x = turned w.x b u.x x;
          y = second_back w.y u.x u.y b y;
          z = third_back w.z u.x u.y w.z (pos 1) (simp ring refl) ∙ ap (λ (t : ℤ). u.x *ℤ pos 0 +ℤ u.y *ℤ pos 0 +ℤ w.z *ℤ t) (sym o);
        },
        dim,
      ),
)

-- what is at least 1 is positive
pub positive : (b : ℤ) → pos 1 ≤ℤ b → pos 0 <ℤ b
positive b h = omega (arith, ints, h)
