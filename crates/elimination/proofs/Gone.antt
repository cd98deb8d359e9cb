-- Vertices that go one after the other and are placed the other way round: their numbers are the listed ones.
use Rattle.std.proofs.Common.{◌≡◌, ◌∙◌, ℕ, zero, suc, arith, ◌+◌, ◌-◌, ◌<◌, ◌≤◌, List, [], ◌∷◌, ◌++◌, length, get_or, ap, sym, subst, ⊎_elim}
use Rattle.std.proofs.{lemmas.Bool.cases_lt, lemmas.List.append_assoc, lemmas.List.get_or_append_left, lemmas.List.get_or_push, lemmas.List.length_push}
use Rattle.std.specs.{Global.Vec, List.All}
use Rattle.vecdim.specs.declared.rows.Row.{Row}
use Rattle.exact.specs.Ratio.{Ratio}
use Rattle.elimination.specs.declared.{joined.Joined.Joined, solution.Gone.Gone, terms.Pivot.Pivot}
use Rattle.elimination.specs.Listed.{Level, Entry, list_to, next_level, level_entries, listed, position_entries, position_up_to}
use Rattle.elimination.specs.Gone.{AreBelow, AreGone, HasGone, IsGone, level_at, gone_entry, gone_entries, placed_entry, placed_entries}
use Rattle.elimination.proofs.Loops.{get_pushed}

-- if i vertices are gone of those up to n, vertex m goes next
pub next_at : (n : ℕ) (l : Level) (i k m : ℕ) → k ≡ suc i → n - i ≡ m → level_at n l k ≡ next_level m (level_at n l i)
next_at n l i k m e f = ap (level_at n l) e ∙ ap (λ t. next_level t (level_at n l i)) f

-- the level at which vertex j + 1 is placed, and the one below it
pub level_below : (n j : ℕ) (l : Level) → j < n → next_level (j + 1) (level_at n l (n - (j + 1))) ≡ level_at n l (n - j)
level_below n j l b = sym (next_at n l (n - (j + 1)) (n - j) (j + 1) (omega (arith, b)) (omega (arith, b)))

module _ (D n : ℕ) (l : Level) where
  abbrev forth : ℕ → List Entry
  forth = gone_entry D n l

  abbrev back : ℕ → List Entry
  back = placed_entry D n l

  -- the numbers that place vertex k at this level, with the level below it
  abbrev placed_at : Level → ℕ → ℕ → Level → List Entry
  placed_at own k j below = list_to D (position_entries own k (position_up_to j below))

  -- the vertices that are gone, all others, and those that are placed
  meet : (j i : ℕ) → i + j ≡ n → list_to i forth ++ listed D j (level_at n l i) ≡ list_to n forth ++ list_to j back
  meet zero i e = let all : i ≡ n = omega (arith, e) in ap (λ t. list_to t forth ++ []) all
  meet (suc j) i e =
      let at = level_at n l i in let next = level_at n l (suc i) in
      let here : suc j ≡ n - i = omega (arith, e) in
      let own : level_entries D at (suc j) ≡ forth i = ap (level_entries D at) here in
      let below : next_level (suc j) at ≡ next = ap (λ t. next_level t at) here in
      let one : i ≡ n - (j + 1) = omega (arith, e) in let two : suc j ≡ j + 1 = omega arith in let three : suc i ≡ n - j = omega (arith, e) in
      let last : placed_at at (suc j) j (next_level (suc j) at) ≡ back j =
      ap (λ t. placed_at at (suc j) j t) below ∙ ap (λ t. placed_at (level_at n l t) (suc j) j next) one
      ∙ ap (λ t. placed_at (level_at n l (n - (j + 1))) t j next) two ∙ ap (λ t. placed_at (level_at n l (n - (j + 1))) (j + 1) j (level_at n l t)) three in
      let rest : listed D j (next_level (suc j) at) ++ placed_at at (suc j) j (next_level (suc j) at) ≡ listed D j next ++ back j =
      ap (λ t. listed D j t ++ placed_at at (suc j) j (next_level (suc j) at)) below ∙ ap (λ t. listed D j next ++ t) last in
      ap (λ t. list_to i forth ++ (t ++ (listed D j (next_level (suc j) at) ++ placed_at at (suc j) j (next_level (suc j) at)))) own
      ∙ ap (λ t. list_to i forth ++ (forth i ++ t)) rest
      ∙ sym (append_assoc (list_to i forth) (forth i) (listed D j next ++ back j))
      ∙ sym (append_assoc (list_to i forth ++ forth i) (listed D j next) (back j))
      ∙ ap (λ t. t ++ back j) (meet j (suc i) (omega (arith, e)))
      ∙ append_assoc (list_to n forth) (list_to j back) (back j)

  -- the numbers in their order
  pub in_turn : gone_entries D n l ++ placed_entries D n l ≡ listed D n l
  in_turn = sym (meet n 0 (omega arith))

module _ {N : Type 0} (xs : List (Vec (Joined N))) (x : Vec (Joined N)) (n i : ℕ) (count : length xs ≡ i) where
  -- one more vertex is gone
  pub below_pushed : AreBelow xs n i → All (λ y. y.place < n - i) x.items → AreBelow (xs ++ (x ∷ [])) n (i + 1)
  below_pushed h b = record {
    has = λ j d o. ⊎_elim (λ p. subst (λ t. All (λ y. y.place < n - j) t.items) (sym p.1) (h.has j d p.0))
        (λ p. subst (λ t. All (λ y. y.place < n - j) t.items) (sym p.1) (subst (λ k. All (λ y. y.place < n - k) x.items) (sym p.0) b))
        (get_pushed xs x d j i count o);
  }

module _ {N : Type 0} {D : ℕ} (m : ℕ) (value : N → Ratio) (fits : Ratio → Type 0) (l : Level) (n i : ℕ) where
  -- vertex j is gone, by what is kept of it
  abbrev Kept : ℕ → List (Joined N) → Row N D → Pivot N → Type 0
  Kept j xs r p = IsGone m value fits xs r p (level_at n l j) (n - j)

  -- so is one more
  pub gone_pushed : (g h : Gone N D) (x : Vec (Joined N)) (r : Row N D) (p : Pivot N) → HasGone g i → h.joined.items ≡ g.joined.items ++ (x ∷ [])
      → h.sums.items ≡ g.sums.items ++ (r ∷ []) → h.pivots.items ≡ g.pivots.items ++ (p ∷ []) → AreGone m value fits g l n i
      → Kept i x.items r p → AreGone m value fits h l n (i + 1)
  gone_pushed g h x r p c ex er ep a b = record {
    has = λ j dx dr dp o.
        subst (λ (xs : List (Vec (Joined N))). Kept j (get_or xs j dx).items (get_or h.sums.items j dr) (get_or h.pivots.items j dp)) (sym ex)
        (subst (λ (rs : List (Row N D)). Kept j (get_or (g.joined.items ++ (x ∷ [])) j dx).items (get_or rs j dr) (get_or h.pivots.items j dp)) (sym er)
        (subst (λ (ps : List (Pivot N)). Kept j (get_or (g.joined.items ++ (x ∷ [])) j dx).items (get_or (g.sums.items ++ (r ∷ [])) j dr) (get_or ps j dp))
        (sym ep) (pushed j dx dr dp o)));
  }
    where
      pushed : (j : ℕ) (dx : Vec (Joined N)) (dr : Row N D) (dp : Pivot N) → j < i + 1
          → Kept j (get_or (g.joined.items ++ (x ∷ [])) j dx).items (get_or (g.sums.items ++ (r ∷ [])) j dr) (get_or (g.pivots.items ++ (p ∷ [])) j dp)
      pushed j dx dr dp o = ⊎_elim
          (λ (k : j < i).
          subst (λ (t : Vec (Joined N)). Kept j t.items (get_or (g.sums.items ++ (r ∷ [])) j dr) (get_or (g.pivots.items ++ (p ∷ [])) j dp))
          (sym (get_or_append_left g.joined.items (x ∷ []) dx j (omega (arith, k, c.joined))))
          (subst (λ (t : Row N D). Kept j (get_or g.joined.items j dx).items t (get_or (g.pivots.items ++ (p ∷ [])) j dp))
          (sym (get_or_append_left g.sums.items (r ∷ []) dr j (omega (arith, k, c.sums))))
          (subst (λ (t : Pivot N). Kept j (get_or g.joined.items j dx).items (get_or g.sums.items j dr) t)
          (sym (get_or_append_left g.pivots.items (p ∷ []) dp j (omega (arith, k, c.pivots)))) (a.has j dx dr dp k))))
          (λ (k : i ≤ j).
          let s : i ≡ j = omega (arith, k, o) in
          subst (λ (t : Vec (Joined N)). Kept j t.items (get_or (g.sums.items ++ (r ∷ [])) j dr) (get_or (g.pivots.items ++ (p ∷ [])) j dp))
          (sym (get_or_push g.joined.items x dx j (c.joined ∙ s)))
          (subst (λ (t : Row N D). Kept j x.items t (get_or (g.pivots.items ++ (p ∷ [])) j dp)) (sym (get_or_push g.sums.items r dr j (c.sums ∙ s)))
          (subst (λ (t : Pivot N). Kept j x.items r t) (sym (get_or_push g.pivots.items p dp j (c.pivots ∙ s))) (subst (λ q. Kept q x.items r p) s b))))
          (cases_lt j i)

-- so many more are gone as are put there
pub count_pushed : {N : Type 0} {D : ℕ} (g h : Gone N D) (x : Vec (Joined N)) (r : Row N D) (p : Pivot N) (i : ℕ) → HasGone g i
    → h.joined.items ≡ g.joined.items ++ (x ∷ []) → h.sums.items ≡ g.sums.items ++ (r ∷ []) → h.pivots.items ≡ g.pivots.items ++ (p ∷ [])
    → HasGone h (i + 1)
count_pushed g h x r p i c ex er ep = record {
  joined = ap length ex ∙ length_push g.joined.items x ∙ ap (λ t. t + 1) c.joined;
  sums = ap length er ∙ length_push g.sums.items r ∙ ap (λ t. t + 1) c.sums;
  pivots = ap length ep ∙ length_push g.pivots.items p ∙ ap (λ t. t + 1) c.pivots;
}

-- vertex j + 1 went after n - (j + 1) others
pub gone_at : {N : Type 0} {D : ℕ} (m : ℕ) (value : N → Ratio) (fits : Ratio → Type 0) (g : Gone N D) (x : Vec (Joined N)) (r : Row N D) (p : Pivot N)
    (l : Level) (n j : ℕ) → j < n → AreGone m value fits g l n n → x ≡ get_or g.joined.items (n - j - 1) x → r ≡ get_or g.sums.items (n - j - 1) r
    → p ≡ get_or g.pivots.items (n - j - 1) p → IsGone m value fits x.items r p (level_at n l (n - (j + 1))) (j + 1)
gone_at m value fits g x r p l n j b h ix ir ip =
    let one : n - j - 1 ≡ n - (j + 1) = omega arith in let two : n - (n - (j + 1)) ≡ j + 1 = omega (arith, b) in
    subst (IsGone m value fits x.items r p (level_at n l (n - (j + 1)))) two
    (subst (λ i. IsGone m value fits x.items r p (level_at n l i) (n - i)) one
    (subst (λ t. IsGone m value fits t.items r p (level_at n l (n - j - 1)) (n - (n - j - 1))) (sym ix)
    (subst (λ t. IsGone m value fits (get_or g.joined.items (n - j - 1) x).items t p (level_at n l (n - j - 1)) (n - (n - j - 1))) (sym ir)
    (subst (λ t. IsGone m value fits (get_or g.joined.items (n - j - 1) x).items (get_or g.sums.items (n - j - 1) r) t (level_at n l (n - j - 1))
    (n - (n - j - 1))) (sym ip) (h.has (n - j - 1) x r p (omega (arith, b)))))))
