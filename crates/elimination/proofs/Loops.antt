-- Lists of numbers that have the values of a level. How far the lines of a level have come. Weights and sums, the last of which is taken. A loop over
-- joined vertices, which passes those between them, without weight.
use Rattle.std.proofs.lemmas.List.Elements.{All-drop, All-contains, Contains-append_right, All-push, All-head}
use Rattle.std.proofs.lemmas.List.{length_push, get_or_push, get_or_append_left, get_or-set_same, get_or-set_other, get_or_default, get_or-drop}
use Rattle.std.proofs.lemmas.List.{length-drop, take_rest, Quantifiers.all_pairs_push}
use Rattle.std.proofs.Common.{◌≡◌, ℕ, zero, suc, arith, ◌+◌, ◌-◌, ◌<◌, ◌≤◌, List, [], ◌∷◌, ◌++◌, length, get_or, inl, inr, ◌⊎◌, sym, refl, subst, ◌∙◌}
use Rattle.std.proofs.Common.{⊎_elim, ap, ◌≢◌, take, drop}
use Rattle.std.proofs.{Math.ListN.set, lemmas.Bool.cases_eq, lemmas.Bool.cases_lt}
use Rattle.std.specs.{Global.Vec, List.All, List.AllPairs}
use borrow.Author.Count.{below_more}
use Rattle.exact.specs.{Ratio.Ratio, Ratio.HasInverse, Values.HasValue}
use Rattle.vecdim.specs.declared.rows.Row.{Row}
use Rattle.periodic_net.specs.Graph.{Graph}
use Rattle.elimination.specs.Listed.{Level, next_level, last_position, position_up_to, Entry, place, over_entry, list_to, pivot_sum, weight_entry}
use Rattle.elimination.specs.Listed.{shift_entry, row_entries, sum_entries}
use Rattle.elimination.specs.Lines.{IsUpperWeights, IsRow, IsUpperLine, AreRowsOfValues, AreWeights, AreWide, AreArcWeights, level_with, AreLines}
use Rattle.elimination.specs.Lines.{IsSymmetric, IsLastLine, AreJoinedVertices, IsNought}
use Rattle.elimination.proofs.Elimination.{position_last, position_below}
use Rattle.elimination.specs.{Faults.IsGood, Faults.AreGood, Faults.IsFault, Pivots.IsWeightSumOf}
use Rattle.elimination.specs.declared.{joined.Joined.Joined, terms.Pivot.Pivot, place.SolveFault.SolveFault}
use Rattle.elimination.proofs.Firsts.{good_turn, fault_turn}
use Rattle.integers.proofs.lists.Members.{all_before, all_after}

-- equal numbers have the same values
pub value_at : {N : Type 0} {m : ℕ} (value : N → Ratio) (x y : N) (a : Ratio) → x ≡ y → HasValue m (value y) a → HasValue m (value x) a
value_at value x y a e h = rw e h

-- fewer weights
narrower : {N : Type 0} {m : ℕ} {value : N → Ratio} (xs : List N) (l : Level) (n k i : ℕ) → k ≤ n → IsUpperWeights m value xs l n i
    → IsUpperWeights m value xs l k i
narrower xs l n k i b h = record { has = λ j d o p. h.has j d o (omega (arith, p)) }

-- from place j on, the elements are those of before
pub record AreLeft {X : Type 0} (before now : List X) (j : ℕ) : Type 0 where
  pub same : (p : ℕ) (d : X) → j ≤ p → get_or now p d ≡ get_or before p d

-- none is replaced yet
pub left_all : {X : Type 0} (xs : List X) → AreLeft xs xs 0
left_all xs = record { same = λ p d b. refl }

-- one weight with a later vertex more is replaced
pub upper_set : {N : Type 0} (m : ℕ) (value : N → Ratio) (xs : List N) (x : N) (l : Level) (j i : ℕ) → i < j → j - (i + 1) < length xs
    → IsUpperWeights m value xs l j i → HasValue m (value x) (l.w i j) → IsUpperWeights m value (set xs (j - (i + 1)) x) l (j + 1) i
upper_set m value xs x l j i above b h s = record {
  has = λ p d o q. below_more (λ p. i < p → HasValue m (value (get_or (set xs (j - (i + 1)) x) (p - (i + 1)) d)) (l.w i p)) j
      (λ p r o. subst (λ t. HasValue m (value t) (l.w i p)) (sym (get_or-set_other xs (j - (i + 1)) (p - (i + 1)) x d (λ e. omega (arith, r, e, o, above))))
      (h.has p d o r))
      (λ o. subst (λ t. HasValue m (value t) (l.w i j)) (sym (get_or-set_same xs (j - (i + 1)) x d b)) s) p q o;
}

-- equal rows have the same values
pub row_at : {N : Type 0} {D : ℕ} (m : ℕ) (value : N → Ratio) (x y : Row N D) (b : ℕ → Ratio) → x ≡ y → IsRow m value y b → IsRow m value x b
row_at m value x y b e h = subst (λ r. IsRow m value r b) (sym e) h

-- an element of a list with one more: one of before, or the new one
pub get_pushed : {X : Type 0} (xs : List X) (x d : X) (j n : ℕ) → length xs ≡ n → j < n + 1
    → ((j < n) × (get_or (xs ++ (x ∷ [])) j d ≡ get_or xs j d)) ⊎ ((j ≡ n) × (get_or (xs ++ (x ∷ [])) j d ≡ x))
get_pushed xs x d j n e l = ⊎_elim (λ (b : j < n). inl (b, get_or_append_left xs (x ∷ []) d j (omega (arith, e, b))))
    (λ (b : n ≤ j). let s : j ≡ n = omega arith in inr (s, get_or_push xs x d j (e ∙ sym s))) (cases_lt j n)

-- a line with one weight less
pub narrow_line : {N : Type 0} {D : ℕ} (m : ℕ) (value : N → Ratio) (xs : List N) (sums : Row N D) (l : Level) (k i : ℕ)
    → IsUpperLine m value xs sums l (k + 1) i → IsUpperLine m value xs sums l k i
narrow_line m value xs sums l k i h = record { weights = narrower xs l (k + 1) k i (omega arith) h.weights; sums = h.sums }

-- Positions, with that of the last vertex.

-- a row of the same values
row_with : {N : Type 0} {D : ℕ} (m : ℕ) (value : N → Ratio) (r : Row N D) (a b : ℕ → Ratio) → ((c : ℕ) → b c ≡ a c) → IsRow m value r a → IsRow m value r b
row_with m value r a b e h = record { first = rw (e 0) h.first; second = rw (e 1) h.second; third = λ t. rw (e 2) (h.third t); flat = h.flat }

module _ {N : Type 0} {D : ℕ} (m : ℕ) (value : N → Ratio) (xs : List (Row N D)) (x : Row N D) (l : Level) where
  pushed : (j : ℕ) → length xs ≡ suc j → AreRowsOfValues m value xs (position_up_to j (next_level (suc j) l)) (suc j)
      → IsRow m value x (last_position l (suc j) (position_up_to j (next_level (suc j) l)))
      → AreRowsOfValues m value (xs ++ (x ∷ [])) (position_up_to (suc j) l) (suc j + 1)
  pushed j count h s = record {
    has = λ i d b. ⊎_elim
        (λ p. subst (λ t. IsRow m value t (position_up_to (suc j) l i)) (sym p.1)
        (row_with m value (get_or xs i d) _ (position_up_to (suc j) l i) (λ c. position_below j l i c p.0) (h.has i d p.0)))
        (λ p. subst (λ t. IsRow m value t (position_up_to (suc j) l i)) (sym p.1)
        (subst (λ q. IsRow m value x (position_up_to (suc j) l q)) (sym p.0)
        (row_with m value x _ (position_up_to (suc j) l (suc j)) (position_last j l) s)))
        (get_pushed xs x d i (suc j) count b);
  }

  -- the positions of the vertices below k, and that of k
  pub position_pushed : (k j : ℕ) → k ≡ suc j → length xs ≡ k → AreRowsOfValues m value xs (position_up_to j (next_level k l)) k
      → IsRow m value x (last_position l k (position_up_to j (next_level k l)))
      → AreRowsOfValues m value (xs ++ (x ∷ [])) (position_up_to k l) (k + 1)
  position_pushed k j e count h s = search (arith, pushed)

-- Weights and rows that are made one after another.

-- one row more
pub rows_pushed : {N : Type 0} {D : ℕ} (m : ℕ) (value : N → Ratio) (xs : List (Row N D)) (x : Row N D) (p : ℕ → ℕ → Ratio) (n : ℕ) → length xs ≡ n
    → AreRowsOfValues m value xs p n → IsRow m value x (p n) → AreRowsOfValues m value (xs ++ (x ∷ [])) p (n + 1)
rows_pushed m value xs x p n count h s = record {
  has = λ i d b. ⊎_elim
      (λ q. subst (λ t. IsRow m value t (p i)) (sym q.1) (h.has i d q.0))
      (λ q. subst (λ t. IsRow m value t (p i)) (sym q.1) (subst (λ k. IsRow m value x (p k)) (sym q.0) s)) (get_pushed xs x d i n count b);
}

module _ {N : Type 0} (xs : List (Vec N)) (x : Vec N) (width n : ℕ) (count : length xs ≡ n) where
  pub wide_pushed : AreWide xs width n → width ≤ length x.items + (n + 1) → AreWide (xs ++ (x ∷ [])) width (n + 1)
  wide_pushed h l = grind (arith, get_pushed)

  -- the weights of one vertex more
  pub weights_of_pushed : (m : ℕ) (value : N → Ratio) (l : Level) → AreWeights m value xs l width n → IsUpperWeights m value x.items l width n
      → AreWeights m value (xs ++ (x ∷ [])) l width (n + 1)
  weights_of_pushed m value l h s = search (arith, get_pushed)

-- the arcs of a vertex are its weights
pub weights_are : {N : Type 0} (m : ℕ) (value : N → Ratio) (xs : List N) (G : Graph) (i : ℕ) (b : ℕ → ℕ → Ratio) → AreArcWeights m value xs G (i + 1)
    → IsUpperWeights m value xs (level_with G b) G.vertices i
weights_are m value xs G i b h = record { has = λ j d o l. h.has j d (omega (arith, o)) l }

-- one row more is replaced
pub rows_set : {N : Type 0} {D : ℕ} (m : ℕ) (value : N → Ratio) (xs : List (Row N D)) (x : Row N D) (p : ℕ → ℕ → Ratio) (i : ℕ) → i < length xs
    → AreRowsOfValues m value xs p i → IsRow m value x (p i) → AreRowsOfValues m value (set xs i x) p (i + 1)
rows_set m value xs x p i within h s = record {
  has = λ j d. below_more (λ j. IsRow m value (get_or (set xs i x) j d) (p j)) i
      (λ j r. subst (λ t. IsRow m value t (p j)) (sym (get_or-set_other xs i j x d (λ e. omega (arith, r, e)))) (h.has j d r))
      (subst (λ t. IsRow m value t (p i)) (sym (get_or-set_same xs i x d within)) s) j;
}

module _ {N : Type 0} (xs : List (Vec N)) (x : Vec N) (i : ℕ) (within : i < length xs) where
  pub wide_set : (n count : ℕ) → AreWide xs n count → n ≤ length x.items + (i + 1) → AreWide (set xs i x) n count
  wide_set n count h l = search (arith, set, get_or-set_same, get_or-set_other, cases_eq)

  -- one list of weights more is replaced
  pub weights_of_set : (m : ℕ) (value : N → Ratio) (l : Level) (n : ℕ) → AreWeights m value xs l n i → IsUpperWeights m value x.items l n i
      → AreWeights m value (set xs i x) l n (i + 1)
  weights_of_set m value l n h s = record {
    has = λ p d. below_more (λ p. IsUpperWeights m value (get_or (set xs i x) p d).items l n p) i
        (λ p r. subst (λ t. IsUpperWeights m value t.items l n p) (sym (get_or-set_other xs i p x d (λ e. omega (arith, r, e)))) (h.has p d r))
        (subst (λ t. IsUpperWeights m value t.items l n i) (sym (get_or-set_same xs i x d within)) s) p;
  }

-- line i as it was before the level, though the lines before it are replaced
pub line_before : {N : Type 0} {D : ℕ} (m : ℕ) (value : N → Ratio) (old now : List (Vec N)) (old_sums sums : List (Row N D)) (l : Level) (k i : ℕ) → i < k
    → AreLeft old now i → AreLeft old_sums sums i
    → AreLines m value old old_sums l (k + 1) k → (d : Vec N) (e : Row N D) (xs : List N) → xs ≡ (get_or now i d).items
    → IsUpperLine m value xs (get_or sums i e) l (k + 1) i
line_before {N} m value old now old_sums sums l k i b left sums_left h d e xs is = record {
  weights = subst (λ ys. IsUpperWeights m value ys l (k + 1) i) (sym (is ∙ ap (λ (v : Vec N). v.items) (left.same i d (omega arith)))) (h.weights.has i d b);
  sums = subst (λ r. IsRow m value r (l.b i)) (sym (sums_left.same i e (omega arith))) (h.sums.has i e b);
}

-- one number among good ones
good_among : (m : ℕ) (fits : Ratio → Type 0) (xs ys : List Entry) (e : Entry) → AreGood m fits (xs ++ (e ∷ ys)) → IsGood m fits e
good_among m fits xs ys e h = All-contains (IsGood m fits) (xs ++ (e ∷ ys)) e h.all (Contains-append_right xs (e ∷ ys) e (0, omega arith, refl))

-- after the first line the pivot has an inverse
pub pivot_inverse : (m : ℕ) (fits : Ratio → Type 0) (D k : ℕ) (l : Level) (i : ℕ) → AreGood m fits (list_to i (row_entries D l k)) → 0 < i
    → HasInverse m (pivot_sum l k)
pivot_inverse m fits D k l zero h b = absurd (omega (arith, b))
pivot_inverse m fits D k l (suc i) h b =
    (good_among m fits (list_to i (row_entries D l k)) (list_to k (weight_entry l k i) ++ list_to D (shift_entry l k i))
    (over_entry (place 2 (k + 1) (i + 1) 0 0) (l.w i k) (pivot_sum l k)) h).divisor refl

-- without the last there is one less
pub count_rest : {X : Type 0} (xs : List X) (x : X) (k : ℕ) → length (xs ++ (x ∷ [])) ≡ k + 1 → length xs ≡ k
count_rest xs x k e = omega (arith, e, length_push xs x)

module _ {N : Type 0} (xs : List (Vec N)) (x : Vec N) (k : ℕ) (count : length xs ≡ k) where
  module _ {D : ℕ} (m : ℕ) (value : N → Ratio) (rows : List (Row N D)) (row : Row N D) (row_count : length rows ≡ k) (l : Level)
      (h : AreLines m value (xs ++ (x ∷ [])) (rows ++ (row ∷ [])) l (k + 1) (k + 1)) where
    pub lines_rest : AreLines m value xs rows l (k + 1) k
    lines_rest = record {
      weights = record {
        has = λ i d b. subst (λ t. IsUpperWeights m value t.items l (k + 1) i) (get_or_append_left xs (x ∷ []) d i (omega (arith, count, b)))
            (h.weights.has i d (omega (arith, b)));
      };
      sums = record {
        has = λ i d b. subst (λ t. IsRow m value t (l.b i))
            (get_or_append_left rows (row ∷ []) d i (omega (arith, row_count, b))) (h.sums.has i d (omega (arith, b)));
      };
    }

    pub row_last : IsRow m value row (l.b k)
    row_last = subst (λ t. IsRow m value t (l.b k)) (get_or_push rows row row k row_count) (h.sums.has k row (omega arith))

-- equal weights and sums have the same values
pub lines_at : {N : Type 0} {D : ℕ} (m : ℕ) (value : N → Ratio) {xs ys : List (Vec N)} {rows others : List (Row N D)} (l : Level) (n count : ℕ) → xs ≡ ys
    → rows ≡ others → AreLines m value xs rows l n count → AreLines m value ys others l n count
lines_at m value {xs} {ys} {rows} {others} l n count e f h = subst (λ r. AreLines m value ys r l n count) f (subst (λ t. AreLines m value t rows l n count) e h)

pub last_line_at : {N : Type 0} {D : ℕ} (m : ℕ) (value : N → Ratio) {xs ys : List (Joined N)} (row : Row N D) (l : Level) (k : ℕ) → xs ≡ ys
    → IsLastLine m value xs row l k → IsLastLine m value ys row l k
last_line_at m value row l k e h = subst (λ t. IsLastLine m value t row l k) e h

-- fewer weights
pub wide_fewer : {N : Type 0} (xs : List (Vec N)) (n k count : ℕ) → k ≤ n → AreWide xs n count → AreWide xs k count
wide_fewer xs n k count b h = record { wide = λ i d q. let s = h.wide i d q in omega (arith, b, s) }

-- The last line is taken off, and its weight sum is formed.

-- what holds wherever the other lines become those of the next level holds here, and the weight sum is good
pub weight_sum_formed : {N : Type 0} {D : ℕ} {m : ℕ} {value : N → Ratio} {fits : Ratio → Type 0} (k : ℕ) (l : Level) {last own others : List (Joined N)}
    (row : Row N D) {lines now : List (Vec N)} {sums sums_now : List (Row N D)} (sum : N) (pivot : Pivot N)
    → last ≡ own → last ≡ others → lines ≡ now → sums ≡ sums_now → AreLines m value lines sums l (k + 1) k × IsLastLine m value last row l k
    → IsSymmetric m l (k + 1)
    → ((t : Level) → AreJoinedVertices m value own t 0 k k → HasValue m (value sum) (pivot_sum t k) × AreGood m fits (sum_entries t k))
    → ((a : Ratio) → HasValue m (value sum) a → IsWeightSumOf m value fits pivot a)
    → (P : Level → Type 0) → ((t : Level) → AreLines m value now sums_now t (k + 1) k → IsLastLine m value others row t k
    → IsWeightSumOf m value fits pivot (pivot_sum t k) → IsSymmetric m t (k + 1) → P t)
    → IsWeightSumOf m value fits pivot (pivot_sum l k) × AreGood m fits (sum_entries l k) × P l
weight_sum_formed {m = m} {value = value} k l row sum pivot e f p q popped symmetric weighed divides P h =
    let formed = weighed l (last_line_at m value row l k e popped.1).joined in
    let divisor = divides (pivot_sum l k) formed.0 in
    (divisor, formed.1, h l (lines_at m value l (k + 1) k p q popped.0) (last_line_at m value row l k f popped.1) divisor symmetric)

-- Vertices with a weight, in rising order, and those between them, which have none.

-- the first a of these vertices are below j
abbrev pub ArePassed : {N : Type 0} → List (Joined N) → ℕ → ℕ → Type 0
ArePassed {N} xs a j = (b : ℕ) (d : Joined N) → b < a → b < length xs → (get_or xs b d).place < j

-- and the others are not
pub record IsReached {N : Type 0} (xs : List (Joined N)) (a j : ℕ) : Type 0 where
  pub before : ArePassed xs a j
  pub after : (b : ℕ) (d : Joined N) → a ≤ b → b < length xs → j ≤ (get_or xs b d).place

module _ {N : Type 0} (xs : List (Joined N)) where
  -- what is passed between two steps at the same vertex is not listed
  between : (a i j q : ℕ) → IsReached xs a i → IsReached xs a j → i ≤ q → q < j → All (λ x. x.place ≢ q) xs
  between a i j q r s b c = search (arith, cases_lt)

  pub reached_none : (h : ℕ) → All (λ x. h ≤ x.place) xs → IsReached xs 0 h
  reached_none h from = record { before = λ b d t l. absurd (omega (arith, t)); after = λ b d t l. from b d l }

  pub reached_all : (k : ℕ) → All (λ x. x.place < k) xs → IsReached xs (length xs) k
  reached_all k h = record { before = λ b d t l. h b d l; after = λ b d t l. absurd (omega (arith, t, l)) }

  module _ (rising : AllPairs (λ x y. x.place < y.place) xs) (a : ℕ) (l : a < length xs) (x : Joined N) (is : x ≡ get_or xs a x) where
    pub place_is : (d : Joined N) → (get_or xs a d).place ≡ x.place
    place_is d = ap (λ (y : Joined N). y.place) (get_or_default xs a d x l ∙ sym is)

    earlier : (b : ℕ) (d : Joined N) → b < a → (get_or xs b d).place < x.place
    earlier b d t = let u = rising b a d t l in omega (arith, u, place_is d)

    later : (b : ℕ) (d : Joined N) → a < b → b < length xs → x.place < (get_or xs b d).place
    later b d t m = let u = rising a b d t m in omega (arith, u, place_is d)

    -- all before the vertex at a are passed
    pub reached_here : IsReached xs a x.place
    reached_here = grind (arith, earlier, later, place_is, cases_lt)

    -- and then itself
    pub reached_past : IsReached xs (a + 1) (x.place + 1)
    reached_past = grind (arith, earlier, place_is, cases_lt, later)

-- a vertex that is passed
module _ {N : Type 0} (xs : List (Joined N)) (a : ℕ) (l : a < length xs) (x : Joined N) (is : x ≡ get_or xs a x) (j : ℕ) (h : ArePassed xs (a + 1) j) where
  pub past : x.place < j
  past = let u = h a x (omega arith) l in subst (λ (y : Joined N). y.place < j) (sym is) u

  pub passed_before : ArePassed xs a j
  passed_before = λ b d t m. h b d (omega (arith, t)) m

-- later vertices are passed too
pub passed_more : {N : Type 0} (xs : List (Joined N)) (a i j : ℕ) → i ≤ j → ArePassed xs a i → ArePassed xs a j
passed_more xs a i j l h = λ b d t m. let u = h b d t m in omega (arith, l, u)

-- what is kept by each vertex without weight is kept by all between
pub over_gap : {N : Type 0} {m : ℕ} {value : N → Ratio} (xs : List (Joined N)) (l : Level) (h n k : ℕ) → AreJoinedVertices m value xs l h n k
    → (Done : ℕ → Type 0) (a i j : ℕ)
    → ((q : ℕ) → i ≤ q → q < j → 0 < q → IsNought m value (l.w k q) → Done q → Done (q + 1)) → IsReached xs a i → IsReached xs a j → h ≤ i → i ≤ j → j ≤ n
    → Done i → Done j
over_gap xs l h n k joined Done a i j step r s f b c d = subst Done (omega (arith, b)) (along (j - i) (omega (arith, b)))
  where
    along : (t : ℕ) → i + t ≤ j → Done (i + t)
    along zero u = subst Done (omega arith) d
    along (suc t) u =
        let o = joined.others (i + t) (omega (arith, f)) (omega (arith, u, c)) (between xs a i j (i + t) r s (omega arith) (omega (arith, u))) in
        subst Done (omega arith) (step (i + t) (omega arith) (omega (arith, u)) o.0 o.1 (along t (omega (arith, u))))

module _ (m : ℕ) (fits : Ratio → Type 0) (f : ℕ → List Entry) (Has : ℕ → Type 0) where
  -- the vertices below j are done, and their numbers are good
  pub record IsDone (j : ℕ) : Type 0 where
    pub has : Has j
    pub good : AreGood m fits (list_to j f)

  -- so it is at each vertex that is reached once the first a listed ones are done
  pub record AreDone {N : Type 0} (xs : List (Joined N)) (h n a : ℕ) : Type 0 where
    pub at : (j : ℕ) → h ≤ j → j ≤ n → IsReached xs a j → IsDone j

module _ {N : Type 0} (m : ℕ) (value : N → Ratio) (fits : Ratio → Type 0) (f : ℕ → List Entry) (l : Level) (n k : ℕ) (Has : ℕ → Type 0) where
  -- the vertex x is the next
  pub record IsNext (xs : List (Joined N)) (h a : ℕ) (x : Joined N) : Type 0 where
    pub from : h ≤ x.place
    pub below : x.place < n
    pub reached : IsReached xs a x.place
    pub done : IsDone m fits f Has x.place
    pub weight : HasValue m (value x.weight) (l.w k x.place)

  -- a vertex from i on that has no weight is done as it is
  abbrev pub Passes : ℕ → Type 0
  Passes i = (q : ℕ) → i ≤ q → q < n → 0 < q → IsNought m value (l.w k q) → IsDone m fits f Has q → Has (q + 1) × AreGood m fits (f q)

module _ {N : Type 0} {m : ℕ} {value : N → Ratio} (fits : Ratio → Type 0) (f : ℕ → List Entry) (xs : List (Joined N)) (l : Level) (h n k : ℕ)
    (joined : AreJoinedVertices m value xs l h n k) where
  from_here : (Has : ℕ → Type 0) (a i : ℕ) → Passes m value fits f l n k Has i → IsReached xs a i → h ≤ i → ((j : ℕ) → h ≤ j → IsReached xs a j → i ≤ j)
      → IsDone m fits f Has i → AreDone m fits f Has xs h n a
  from_here Has a i pass reached low first done = record {
    at = λ j b c r. over_gap xs l h n k joined (IsDone m fits f Has) a i j
        (λ q t u z o d. let s = pass q t (omega (arith, u, c)) z o d in record { has = s.0; good = good_turn m fits f q d.good s.1 }) reached r low
        (first j b r) c done;
  }

  -- at the start
  pub done_none : (Has : ℕ → Type 0) → Passes m value fits f l n k Has h → Has h → AreGood m fits (list_to h f) → AreDone m fits f Has xs h n 0
  done_none Has pass has good = from_here Has 0 h pass (reached_none xs h joined.from) (omega arith) (λ j b r. b) (record { has = has; good = good })

  module _ (all : All (λ x. x.place < n) xs) (Has : ℕ → Type 0) (a : ℕ) (before : AreDone m fits f Has xs h n a) where
    -- at the end
    pub done_all : length xs ≡ a → h ≤ n → Has n × AreGood m fits (list_to n f)
    done_all e b = let d = before.at n b (omega arith) (subst (λ t. IsReached xs t n) e (reached_all xs n all)) in (d.has, d.good)

    module _ (within : a < length xs) (x : Joined N) (is : x ≡ get_or xs a x) where
      next : IsNext m value fits f l n k Has xs h a x
      next =
          let low : h ≤ x.place = subst (λ (y : Joined N). h ≤ y.place) (sym is) (joined.from a x within) in
          let below : x.place < n = subst (λ (y : Joined N). y.place < n) (sym is) (all a x within) in
          let reached = reached_here xs joined.rising a within x is in
          record {
            from = low;
            below = below;
            reached = reached;
            done = before.at x.place low (omega (arith, below)) reached;
            weight = subst (λ (y : Joined N). HasValue m (value y.weight) (l.w k y.place)) (sym is) (joined.has a x within);
          }

      -- its turn ends in a fault
      pub fault_next : (e : SolveFault N) → (IsNext m value fits f l n k Has xs h a x → IsFault m fits value (f x.place) e)
          → IsFault m fits value (list_to n f) e
      fault_next e turn = fault_turn m fits f value x.place n e next.below next.done.good (turn next)

      -- its turn is good
      pub done_next : (Then : ℕ → Type 0) → Passes m value fits f l n k Then (x.place + 1)
          → (IsNext m value fits f l n k Has xs h a x → Then (x.place + 1) × AreGood m fits (f x.place)) → AreDone m fits f Then xs h n (a + 1)
      done_next Then pass turn =
          let t = turn next in
          from_here Then (a + 1) (x.place + 1) pass (reached_past xs joined.rising a within x is) (let b = next.from in omega (arith, b))
          (λ j b r. let p = past xs a within x is j r.before in omega (arith, p)) (record { has = t.0; good = good_turn m fits f x.place next.done.good t.1 })

-- The vertices after one of a list.

module _ {N : Type 0} (xs : List (Joined N)) (rising : AllPairs (λ x y. x.place < y.place) xs) (a : ℕ) (within : a < length xs) (x : Joined N)
    (is : x ≡ get_or xs a x) where
  above : All (λ y. x.place < y.place) (drop (a + 1) xs)
  above = λ b d t. subst (λ (y : Joined N). x.place < y.place) (sym (get_or-drop (a + 1) xs b d))
      (let u = rising a (a + 1 + b) d (omega arith) (omega (arith, t, length-drop (a + 1) xs)) in omega (arith, u, place_is xs rising a within x is d))

  -- their places are after its own
  pub places_later : (k : ℕ) → All (λ y. y.place < k) xs → All (λ y. (x.place < y.place) × (y.place < k)) (take (length xs - (a + 1)) (drop (a + 1) xs))
  places_later k h = subst (All (λ (y : Joined N). (x.place < y.place) × (y.place < k))) (sym (take_rest xs (a + 1)))
      (λ b d l. (above b d l, All-drop (λ (y : Joined N). y.place < k) (a + 1) xs h b d l))

module _ {N : Type 0} {m : ℕ} {value : N → Ratio} (xs : List (Joined N)) (l : Level) (h n k : ℕ) (joined : AreJoinedVertices m value xs l h n k) (a : ℕ)
    (within : a < length xs) (x : Joined N) (is : x ≡ get_or xs a x) where
  own : (d : Joined N) → (get_or xs a d).place ≡ x.place
  own d = place_is xs joined.rising a within x is d

  not_here : (j : ℕ) → x.place + 1 ≤ j → All (λ y. y.place ≢ j) (drop (a + 1) xs) → All (λ y. y.place ≢ j) xs
  not_here j f o = λ p d t e. ⊎_elim
      (λ (u : p < a). let v = joined.rising p a d u within in omega (arith, v, own d, f, e))
      (λ u. ⊎_elim
      (λ (v : a < p).
      let q : a + 1 + (p - (a + 1)) ≡ p = omega (arith, v) in
      o (p - (a + 1)) d (omega (arith, t, v, length-drop (a + 1) xs)) (subst (λ (y : Joined N). y.place ≡ j) (sym (get_or-drop (a + 1) xs (p - (a + 1)) d))
      (subst (λ r. (get_or xs r d).place ≡ j) (sym q) e)))
      (λ v. let q : a ≡ p = omega (arith, u, v) in let w = subst (λ r. (get_or xs r d).place ≡ x.place) q (own d) in omega (arith, w, e, f)) (cases_lt a p))
      (cases_lt p a)

  -- they are joined, from the next vertex on
  pub joined_later : AreJoinedVertices m value (take (length xs - (a + 1)) (drop (a + 1) xs)) l (x.place + 1) n k
  joined_later = subst (λ ys. AreJoinedVertices m value ys l (x.place + 1) n k) (sym (take_rest xs (a + 1)))
      (record {
        rising = λ i j d b c. subst (λ (y : Joined N). y.place < (get_or (drop (a + 1) xs) j d).place) (sym (get_or-drop (a + 1) xs i d))
            (subst (λ (y : Joined N). (get_or xs (a + 1 + i) d).place < y.place) (sym (get_or-drop (a + 1) xs j d))
            (joined.rising (a + 1 + i) (a + 1 + j) d (omega (arith, b)) (omega (arith, c, length-drop (a + 1) xs))));
        from = λ b d t. let u = above xs joined.rising a within x is b d t in omega (arith, u);
        has = All-drop (λ (y : Joined N). HasValue m (value y.weight) (l.w k y.place)) (a + 1) xs joined.has;
        others = λ j f b o. joined.others j (let u = joined.from a x within in omega (arith, u, own x, f)) b (not_here j f o);
      })

-- Vertices with a weight, listed one after another.

module _ {N : Type 0} {m : ℕ} {value : N → Ratio} (xs : List (Joined N)) (l : Level) (i k : ℕ) (h : AreJoinedVertices m value xs l 0 i k) where
  -- vertex i is listed
  pub joined_pushed : (x : Joined N) → All (λ y. y.place < i) xs → x.place ≡ i → HasValue m (value x.weight) (l.w k i)
      → AreJoinedVertices m value (xs ++ (x ∷ [])) l 0 (i + 1) k
  joined_pushed x below place has = record {
    rising = all_pairs_push (λ (y z : Joined N). y.place < z.place) xs x h.rising (λ a d b. let u = below a d b in omega (arith, u, place));
    from = λ a d b. omega arith;
    has = All-push (λ (y : Joined N). HasValue m (value y.weight) (l.w k y.place)) xs x h.has
        (subst (λ q. HasValue m (value x.weight) (l.w k q)) (sym place) has);
    others = λ j f b. below_more (λ j. All (λ y. y.place ≢ j) (xs ++ (x ∷ [])) → (0 < j) × IsNought m value (l.w k j)) i
        (λ j u o. h.others j (omega arith) u (all_before (λ (y : Joined N). y.place ≢ j) xs (x ∷ []) o))
        (λ o. absurd (All-head (λ (y : Joined N). y.place ≢ i) x [] (all_after (λ (y : Joined N). y.place ≢ i) xs (x ∷ []) o) place)) j b;
  }

-- no vertex is listed yet
pub joined_none : {N : Type 0} (m : ℕ) (value : N → Ratio) (l : Level) (k : ℕ) → AreJoinedVertices m value [] l 0 0 k
joined_none m value l k = grind arith
