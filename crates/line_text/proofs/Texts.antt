-- Texts of rows and numbers: at which mark they are cut, what is read of them, and that each is of one list.
use Rattle.std.proofs.Common.{◌≡◌, ℕ, ◌+◌, List, [], ◌∷◌, ◌++◌, length, take, drop, Bool, cond, ◌==◌, not, refl, ap, ◌∙◌, eq-eqb, arith, Option}
use Rattle.std.proofs.Common.{None, Some, IfSome, IfNone, Result, Ok, Err, MatchResult, sym, subst, ◌≢◌, Bor, MatchOption, suc, ◌<◌, ℤ, pos, negsuc, neg_ℤ}
use Rattle.std.proofs.Common.{◌≤◌, All, ◌-◌, get_or}
use Rattle.std.proofs.lemmas.{Bool.eqb-true, Bool.ne_eqb, Bool.true≢false, Str.IsUtf8-from_ascii, Str.Ascii.IsAscii-cons}
use Rattle.std.proofs.lemmas.List.{Sums.prefix_len-le-length, append_cancel_left, append_cancel_right, length-append}
use Rattle.std.proofs.lemmas.{Grind.common_steps, Option.none-some, Result.Ok-from_Ok_iff}
use Rattle.std.specs.{Prelude.position, Prelude.unwrap_or, List.prefix_len, Result.IsErrAnd, Fmt.signed_decimal, Fmt.decimal}
use Rattle.line_text.specs.Lines.{before, onwards, HasNo, BeginsWith, Place, IsAt, rows_text}
use Rattle.line_text.specs.declared.faults.RowFault.{RowFault}
use Rattle.line_text.specs.{Faults.IfBadLine, Reading.IsReadTo, Numbers.IsWide, Numbers.marked_text, Numbers.numbers_text, Numbers.row_text}
use Rattle.std.proofs.lemmas.Fmt.{decimal_is_IsNumeral_wide, IsAscii-decimal_wide}
use Rattle.std.proofs.lemmas.Str.Parse.{digit_from_value, numerals_by_value, tells_digits, parse_signed_digits, parse_signed_minus}
use Rattle.std.specs.Str.{Parse.AllDigits, Parse.ParsesSigned, Parse.digits_value, IsUtf8, IsAscii}
use mir.Syntax.{w128}
use Rattle.std.proofs.lemmas.List.Elements.{All-nil, All-head, All-tail, All-push}
use mathlib.Core.List.{append_assoc, append-nil}

pub taken : (m : ℕ) (bs : List ℕ) → take (length (before m bs)) bs ≡ before m bs
taken m [] = refl
taken m (b ∷ bs) = by (b == m) (taken m bs)
  where
    by : (t : Bool) → take (length (before m bs)) bs ≡ before m bs → take (length (cond t [] (b ∷ before m bs))) (b ∷ bs) ≡ cond t [] (b ∷ before m bs)
    by t h = search arith

pub dropped : (m : ℕ) (bs : List ℕ) → drop (length (before m bs)) bs ≡ onwards m bs
dropped m [] = refl
dropped m (b ∷ bs) = by (b == m) (dropped m bs)
  where
    by : (t : Bool) → drop (length (before m bs)) bs ≡ onwards m bs → drop (length (cond t [] (b ∷ before m bs))) (b ∷ bs) ≡ cond t (b ∷ bs) (onwards m bs)
    by t h = search arith

pub joined : (m : ℕ) (bs : List ℕ) → before m bs ++ onwards m bs ≡ bs
joined m [] = refl
joined m (b ∷ bs) = by (b == m) (joined m bs)
  where
    by : (t : Bool) → before m bs ++ onwards m bs ≡ bs → cond t [] (b ∷ before m bs) ++ cond t (b ∷ bs) (onwards m bs) ≡ b ∷ bs
    by t h = search arith

prefix_is : (m : ℕ) (bs : List ℕ) → prefix_len (λ b. not (b == m)) bs ≡ length (before m bs)
prefix_is m [] = refl
prefix_is m (b ∷ bs) = by (b == m) (prefix_is m bs)
  where
    by : (t : Bool) → prefix_len (λ x. not (x == m)) bs ≡ length (before m bs)
        → cond (not t) (1 + prefix_len (λ x. not (x == m)) bs) 0 ≡ length (cond t [] (b ∷ before m bs))
    by t h = grind arith

pub size_is : (m : ℕ) (bs : List ℕ) → unwrap_or (position (λ b. b == m) bs) (length bs) ≡ length (before m bs)
size_is m bs = grind (arith, common_steps, prefix_len-le-length (λ b. not (b == m)) bs) ∙ prefix_is m bs

-- where the mark does not stand in the first part, and begins the second, the cut is between them

pub before_is : (m : ℕ) (f r : List ℕ) → HasNo m f → BeginsWith m r → before m (f ++ r) ≡ f
before_is m [] [] none begins = refl
before_is m [] (b ∷ r) none begins = ap (λ t. cond t [] (b ∷ before m r)) (eq-eqb b m begins)
before_is m (b ∷ f) r none begins = ap (λ t. cond t [] (b ∷ before m (f ++ r))) none.0 ∙ ap (λ l. b ∷ l) (before_is m f r none.1 begins)

pub onwards_is : (m : ℕ) (f r : List ℕ) → HasNo m f → BeginsWith m r → onwards m (f ++ r) ≡ r
onwards_is m [] [] none begins = refl
onwards_is m [] (b ∷ r) none begins = ap (λ t. cond t (b ∷ r) (onwards m r)) (eq-eqb b m begins)
onwards_is m (b ∷ f) r none begins = ap (λ t. cond t (b ∷ (f ++ r)) (onwards m (f ++ r))) none.0 ∙ onwards_is m f r none.1 begins

pub begins : (m : ℕ) (bs : List ℕ) → BeginsWith m (onwards m bs)
begins m [] = tt
begins m (b ∷ bs) = by (b == m) refl (begins m bs)
  where
    by : (t : Bool) → (b == m) ≡ t → BeginsWith m (onwards m bs) → BeginsWith m (cond t (b ∷ bs) (onwards m bs))
    by t h k = search (arith, eqb-true)

-- Answers that may be none, and results.

pub none_from : {X : Type 0} (o : Option X) (Q : Type 0) → (o ≡ None → Q) → IfNone o Q
none_from o Q k = search arith

pub some_from : {X : Type 0} (o : Option X) (P Q : X → Type 0) → ((x : X) → P x → Q x) → IfSome o P → IfSome o Q
some_from o P Q k l = search arith

pub at_none : {X : Type 0} (o : Option X) (Q : Type 0) → o ≡ None → IfNone o Q → Q
at_none o Q k l = search (arith, none-some)

pub at_some : {X : Type 0} (o : Option X) (P : X → Type 0) (x : X) → o ≡ Some x → IfSome o P → P x
at_some o P x e h = subst (λ p. IfSome p P) e h

pub at_ok : {T E : Type 0} (r : Result T E) (P : T → Type 0) (Q : E → Type 0) (x : T) → r ≡ Ok x → MatchResult r P Q → P x
at_ok r P Q x e h = subst (λ s. MatchResult s P Q) e h

pub at_err : {T E : Type 0} (r : Result T E) (P : T → Type 0) (Q : E → Type 0) (x : E) → r ≡ Err x → MatchResult r P Q → Q x
at_err r P Q x e h = subst (λ s. MatchResult s P Q) e h

pub result_from : {T E : Type 0} (r : Result T E) (P P' : T → Type 0) (Q Q' : E → Type 0) → ((x : T) → P x → P' x) → ((e : E) → Q e → Q' e) → MatchResult r P Q
    → MatchResult r P' Q'
result_from r P P' Q Q' k l p = search arith

-- a fault that is handed on
pub handed_on : {A : Type 0} (Q : A → Type 0) (P : ℕ → Type 0) (x : RowFault) (r : Result A RowFault) → IsErrAnd r (λ e. e ≡ x) → IfBadLine P x
    → MatchResult r Q (IfBadLine P)
handed_on Q P x r k l = search arith

-- a bad line, of which less is said
pub bad_line_from : (x : RowFault) (P Q : ℕ → Type 0) → ((n : ℕ) → P n → Q n) → IfBadLine P x → IfBadLine Q x
bad_line_from x P Q k l = search arith

-- What stands between two words.

pub only_inner : (line first rest last x : List ℕ) (r : Option (Bor (List ℕ))) → line ≡ first ++ rest
    → MatchOption r ((front : List ℕ) → rest ≢ front ++ last) (λ (f : Bor (List ℕ)). rest ≡ f.now ++ last) → line ≡ first ++ (x ++ last)
    → MatchOption r ⊥ (λ (f : Bor (List ℕ)). f.now ≡ x)
only_inner line first rest last x r h k l = search (arith, append_cancel_left, append_cancel_right)

-- The bytes of numbers: no blank and no line feed stands among them.

pub digits_have_no : (m : ℕ) → m < 48 → (ds : List ℕ) → AllDigits 10 ds → HasNo m ds
digits_have_no m small [] h = tt
digits_have_no m small (d ∷ ds) h = (ne_eqb d m (λ e. let r = digit_from_value d h.0 in omega (arith, r.0, e)), digits_have_no m small ds h.1)

pub number_has_no : (m : ℕ) → m < 45 → (z : ℤ) → IsWide z → HasNo m (signed_decimal z)
number_has_no m small (pos n) fits = digits_have_no m (omega (arith, small)) (decimal n) (decimal_is_IsNumeral_wide n (omega (arith, fits.sfits))).0.1
number_has_no m small (negsuc n) fits = (
  ne_eqb 45 m (λ e. omega (arith, e)),
  digits_have_no m (omega (arith, small)) (decimal (suc n))
      (decimal_is_IsNumeral_wide (suc n) (omega (arith, fits.sfits))).0.1,
)

pub numbers_begin : (m : ℕ) (zs : List ℤ) → BeginsWith m (marked_text m zs)
numbers_begin m [] = tt
numbers_begin m (z ∷ zs) = refl

-- A number that was written is parsed as itself.

pub parsed_again : {E : Type 0} (z : ℤ) (bs : List ℕ) (r : Result ℤ E) → IsWide z → bs ≡ signed_decimal z → ParsesSigned w128 10 bs r → r ≡ Ok z
parsed_again (pos n) bs r fits is h =
    let k = decimal_is_IsNumeral_wide n (omega (arith, fits.sfits)) in
    let read = parse_signed_digits (numerals_by_value _ tells_digits) w128 (decimal n) r (subst (λ l. ParsesSigned w128 10 l r) is h) k.0.1 in
    Ok-from_Ok_iff r _ _ read (k.0.0, omega (arith, k.1, fits.sfits)) ∙ ap (λ m. Ok (pos m)) k.1
parsed_again (negsuc n) bs r fits is h =
    let k = decimal_is_IsNumeral_wide (suc n) (omega (arith, fits.sfits)) in
    let read = parse_signed_minus (numerals_by_value _ tells_digits) w128 (45 ∷ decimal (suc n)) r (subst (λ l. ParsesSigned w128 10 l r) is h) refl in
    Ok-from_Ok_iff r _ _ read (k.0.1, k.0.0, omega (arith, k.1, fits.sfits)) ∙ ap (λ m. Ok (neg_ℤ (pos m))) k.1

pub number_is_text : (z : ℤ) (bs : List ℕ) → IsWide z → bs ≡ signed_decimal z → IsUtf8 bs
number_is_text (pos n) bs fits is = IsUtf8-from_ascii bs (subst IsAscii (sym is) (IsAscii-decimal_wide n (omega (arith, fits.sfits))))
number_is_text (negsuc n) bs fits is =
    IsUtf8-from_ascii bs (subst IsAscii (sym is) (IsAscii-cons 45 (decimal (suc n)) (omega arith) (IsAscii-decimal_wide (suc n) (omega (arith, fits.sfits)))))

-- The steps of the reading of a list of numbers.

module _ (m : ℕ) (small : m < 45) where
  pub text_of_sum : (xs ys : List ℤ) → marked_text m (xs ++ ys) ≡ marked_text m xs ++ marked_text m ys
  text_of_sum [] ys = refl
  text_of_sum (x ∷ xs) ys = ap (λ l. m ∷ l) (ap (λ l. signed_decimal x ++ l) (text_of_sum xs ys)
      ∙ sym (append_assoc (signed_decimal x) (marked_text m xs) (marked_text m ys)))

  pub at_start : (text : List ℕ) → IsReadTo m text [] text
  at_start text = record { joined = refl; wide = All-nil IsWide; every = λ zs wide e. (zs, refl, e, wide) }

  -- if something is left, it begins with the mark, and a number follows
  pub record IsNext (rest : List ℕ) (ws : List ℤ) : Type 0 where
    pub first : ℤ
    pub later : List ℤ
    pub is : ws ≡ first ∷ later
    pub begins : get_or rest 0 0 ≡ m
    pub field : before m (drop 1 rest) ≡ signed_decimal first
    pub after : onwards m (drop 1 rest) ≡ marked_text m later
    pub wide : IsWide first
    pub all_wide : All IsWide later

  pub next_number : (rest : List ℕ) (ws : List ℤ) → All IsWide ws → 0 < length rest → rest ≡ marked_text m ws → IsNext rest ws
  next_number rest [] wide some e = let none : length rest ≡ 0 = ap length e in absurd (omega (arith, none, some))
  next_number rest (w ∷ ws) wide some e = record {
    first = w;
    later = ws;
    is = refl;
    begins = ap (λ l. get_or l 0 0) e;
    field = ap (λ l. before m (drop 1 l)) e ∙ before_is m (signed_decimal w) (marked_text m ws) (number_has_no m small w (All-head IsWide w ws wide))
        (numbers_begin m ws);
    after = ap (λ l. onwards m (drop 1 l)) e ∙ onwards_is m (signed_decimal w) (marked_text m ws) (number_has_no m small w (All-head IsWide w ws wide))
        (numbers_begin m ws);
    wide = All-head IsWide w ws wide;
    all_wide = All-tail IsWide w ws wide;
  }

  -- the text left, if its first byte is the mark
  from_mark : (rest : List ℕ) → 0 < length rest → get_or rest 0 0 ≡ m → rest ≡ m ∷ before m (drop 1 rest) ++ onwards m (drop 1 rest)
  from_mark [] some e = absurd (omega (arith, some))
  from_mark (b ∷ bs) some e = ap (λ x. x ∷ bs) e ∙ ap (λ l. m ∷ l) (sym (joined m bs))

  pub pushed : (text : List ℕ) (numbers : List ℤ) (rest : List ℕ) (n : ℤ) (field after : List ℕ) → IsReadTo m text numbers rest → 0 < length rest
      → get_or rest 0 0 ≡ m
      → field ≡ before m (drop 1 rest) → after ≡ onwards m (drop 1 rest)
      → field ≡ signed_decimal n → IsWide n → ((w : ℤ) → IsWide w → field ≡ signed_decimal w → Some n ≡ Some w)
      → IsReadTo m text (numbers ++ n ∷ []) after
  pushed text numbers rest n field after read some begins first second spelled wide only = record {
    joined = read.joined
        ∙ ap (λ l. marked_text m numbers ++ l) (from_mark rest some begins ∙ ap (λ f. m ∷ f ++ onwards m (drop 1 rest)) (sym first ∙ spelled)
        ∙ ap (λ l. m ∷ signed_decimal n ++ l) (sym second))
        ∙ sym (append_assoc (marked_text m numbers) (m ∷ signed_decimal n) after)
        ∙ ap (λ l. l ++ after) (ap (λ l. marked_text m numbers ++ m ∷ l) (sym (append-nil (signed_decimal n))) ∙ sym (text_of_sum numbers (n ∷ [])));
    wide = All-push IsWide numbers n read.wide wide;
    every = λ zs all e.
        let w = read.every zs all e in let next = next_number rest w.0 w.3 some w.2 in
        let same : n ≡ next.first = ap (λ o. unwrap_or o n) (only next.first next.wide (first ∙ next.field)) in (
          next.later,
          w.1 ∙ ap (λ l. numbers ++ l) (next.is ∙ ap (λ x. x ∷ next.later) (sym same)) ∙ sym (append_assoc numbers (n ∷ []) next.later),
          second
              ∙ next.after,
          next.all_wide,
        );
  }

  pub stuck : (text : List ℕ) (numbers : List ℤ) (rest : List ℕ) → IsReadTo m text numbers rest → 0 < length rest
      → ((w : ℤ) → IsWide w → get_or rest 0 0 ≡ m → before m (drop 1 rest) ≡ signed_decimal w → ⊥)
      → (zs : List ℤ) → All IsWide zs → text ≡ marked_text m zs → ⊥
  stuck text numbers rest read some none zs all e =
      let w = read.every zs all e in let next = next_number rest w.0 w.3 some w.2 in
      none next.first next.wide next.begins next.field

  -- as many numbers as there may be were read, and something is left
  pub too_many : (most : ℕ) (text : List ℕ) (numbers : List ℤ) (rest : List ℕ) → IsReadTo m text numbers rest → 0 < length rest → length numbers ≡ most
      → (zs : List ℤ) → All IsWide zs → length zs ≤ most → text ≡ marked_text m zs → ⊥
  too_many most text numbers rest read some full zs all few e =
      let w = read.every zs all e in let next = next_number rest w.0 w.3 some w.2 in
      let one = ap length w.1 in let two = length-append numbers w.0 in let three = ap length next.is in
      omega (arith, few, full, one, two, three)

  pub finished : (text : List ℕ) (numbers : List ℤ) (rest : List ℕ) → IsReadTo m text numbers rest → rest ≡ [] → (zs : List ℤ) → All IsWide zs
      → text ≡ marked_text m zs → numbers ≡ zs
  finished text numbers rest read none zs all e =
      let w = read.every zs all e in
      sym (w.1 ∙ ap (λ l. numbers ++ l) (no_numbers w.0 (sym w.2 ∙ none)) ∙ append-nil numbers)
    where
      no_numbers : (ws : List ℤ) → marked_text m ws ≡ [] → ws ≡ []
      no_numbers [] e = refl
      no_numbers (w ∷ ws) e = let long = ap length e in absurd (omega (arith, long))

pub none_left : (rest : List ℕ) → length rest < 1 → rest ≡ []
none_left [] few = refl
none_left (b ∷ bs) few = absurd (omega (arith, few))

pub without_first : (rest : List ℕ) → take (length rest - 1) (drop 1 rest) ≡ drop 1 rest
without_first rest = grind (arith, common_steps)

-- A text is cut at its first line feed.

-- what follows a mark
after_mark : (m : ℕ) (second : List ℕ) → BeginsWith m second → 1 ≤ length second → second ≡ m ∷ drop 1 second
after_mark m second h k = search arith

pub first_line : (text first second : List ℕ) → first ≡ before 10 text → second ≡ onwards 10 text → 1 ≤ length second
    → text ≡ first ++ 10 ∷ take (length second - 1) (drop 1 second)
first_line text first second one two some =
    sym (joined 10 text) ∙ ap (λ l. l ++ onwards 10 text) (sym one) ∙ ap (λ l. first ++ l)
    (sym two ∙ after_mark 10 second (subst (BeginsWith 10) (sym two) (begins 10 text)) some ∙ ap (λ l. 10 ∷ l) (sym (without_first second)))

pub only_line : (text first second : List ℕ) → first ≡ before 10 text → second ≡ onwards 10 text → (line rest : List ℕ) → HasNo 10 line
    → text ≡ line ++ 10 ∷ rest → (first ≡ line) × (take (length second - 1) (drop 1 second) ≡ rest)
only_line text first second one two line rest h e = search (arith, before_is, without_first, onwards_is)

pub no_line : (text second : List ℕ) → second ≡ onwards 10 text → length second < 1 → (line rest : List ℕ) → HasNo 10 line → text ≡ line ++ 10 ∷ rest → ⊥
no_line text second two few line rest h e = search (arith, onwards_is)

-- Rows of a text that were passed, and what is left behind them.

pub rows_text_of_sum : (xs ys : List (List ℕ)) → rows_text (xs ++ ys) ≡ rows_text xs ++ rows_text ys
rows_text_of_sum [] ys = refl
rows_text_of_sum (x ∷ xs) ys = ap (λ l. x ++ 10 ∷ l) (rows_text_of_sum xs ys) ∙ sym (append_assoc x (10 ∷ rows_text xs) (rows_text ys))

-- one more row is passed
pub one_more_row : (text : List ℕ) (rows : List (List ℕ)) (before after : Place) (row : List ℕ) → IsAt text rows before → before.rest ≡ row ++ 10 ∷ after.rest
    → after.number ≡ before.number + 1 → IsAt text (rows ++ row ∷ []) after
one_more_row text rows before after row at rest number = record {
  joined = at.joined
      ∙ ap (λ l. rows_text rows ++ l) (rest ∙ sym (append_assoc row (10 ∷ []) after.rest))
      ∙ sym (append_assoc (rows_text rows) (row ++ 10 ∷ []) after.rest)
      ∙ ap (λ l. l ++ after.rest) (sym (rows_text_of_sum rows (row ∷ [])));
  number = let longer = length-append rows (row ∷ []) in let was = at.number in omega (arith, number, was, longer);
}

pub sum_has_no : (m : ℕ) (xs ys : List ℕ) → HasNo m xs → HasNo m ys → HasNo m (xs ++ ys)
sum_has_no m [] ys h g = g
sum_has_no m (x ∷ xs) ys h g = (h.0, sum_has_no m xs ys h.1 g)

-- no line feed stands among numbers
pub numbers_have_no : (zs : List ℤ) → All IsWide zs → HasNo 10 (numbers_text zs)
numbers_have_no [] wide = tt
numbers_have_no (z ∷ zs) wide = (
  refl,
  sum_has_no 10 (signed_decimal z) (numbers_text zs) (number_has_no 10 (omega arith) z (All-head IsWide z zs wide))
      (numbers_have_no zs (All-tail IsWide z zs wide)),
)

pub row_has_no : (word : List ℕ) (zs : List ℤ) → HasNo 10 word → All IsWide zs → HasNo 10 (row_text word zs)
row_has_no word zs none wide = sum_has_no 10 word (numbers_text zs) none (numbers_have_no zs wide)

-- if more rows were passed, less is left
pub less_left : (text : List ℕ) (rows more : List (List ℕ)) (row : List ℕ) (p q : Place) → IsAt text rows p → IsAt text (rows ++ row ∷ more) q
    → length q.rest < length p.rest
less_left text rows more row p q earlier later =
    let same : p.rest ≡ rows_text (row ∷ more) ++ q.rest = append_cancel_left (rows_text rows) p.rest (rows_text (row ∷ more) ++ q.rest)
    (sym earlier.joined ∙ later.joined ∙ ap (λ l. l ++ q.rest) (rows_text_of_sum rows (row ∷ more))
    ∙ append_assoc (rows_text rows) (rows_text (row ∷ more)) q.rest) in
    let whole = ap length same in let two = length-append (rows_text (row ∷ more)) q.rest in
    let one = length-append row (10 ∷ rows_text more) in omega (arith, whole, two, one)

-- A text of rows and numbers is that of one list alone.

same_decimal : (m n : ℕ) → IsWide (pos m) → IsWide (pos n) → decimal m ≡ decimal n → m ≡ n
same_decimal m n wm wn e =
    sym (decimal_is_IsNumeral_wide m (omega (arith, wm.sfits))).1 ∙ ap (digits_value 10) e ∙ (decimal_is_IsNumeral_wide n (omega (arith, wn.sfits))).1

-- digits do not begin with the sign
no_sign : (ds es : List ℕ) → HasNo 45 ds → 45 ∷ es ≡ ds → ⊥
no_sign ds es h k = search (arith, true≢false, eq-eqb)

pub same_number : (y z : ℤ) → IsWide y → IsWide z → signed_decimal y ≡ signed_decimal z → y ≡ z
same_number (pos m) (pos n) wy wz e = ap pos (same_decimal m n wy wz e)
same_number (pos m) (negsuc n) wy wz e =
    absurd (no_sign (decimal m) (decimal (suc n)) (digits_have_no 45 (omega arith) (decimal m) (decimal_is_IsNumeral_wide m (omega (arith, wy.sfits))).0.1)
    (sym e))
same_number (negsuc m) (pos n) wy wz e =
    absurd (no_sign (decimal n) (decimal (suc m)) (digits_have_no 45 (omega arith) (decimal n) (decimal_is_IsNumeral_wide n (omega (arith, wz.sfits))).0.1) e)
same_number (negsuc m) (negsuc n) wy wz e = ap negsuc (omega (arith, values))
  where
    values : suc m ≡ suc n
    values = sym (decimal_is_IsNumeral_wide (suc m) (omega (arith, wy.sfits))).1 ∙ ap (λ l. digits_value 10 (drop 1 l)) e
        ∙ (decimal_is_IsNumeral_wide (suc n) (omega (arith, wz.sfits))).1

pub same_numbers : (m : ℕ) → m < 45 → (ys zs : List ℤ) → All IsWide ys → All IsWide zs → marked_text m ys ≡ marked_text m zs → ys ≡ zs
same_numbers m small [] [] wy wz e = refl
same_numbers m small (y ∷ ys) (z ∷ zs) wy wz e =
    let hy = All-head IsWide y ys wy in let hz = All-head IsWide z zs wz in
    let both : signed_decimal y ++ marked_text m ys ≡ signed_decimal z ++ marked_text m zs = ap (drop 1) e in
    let field = sym (before_is m (signed_decimal y) (marked_text m ys) (number_has_no m small y hy) (numbers_begin m ys)) ∙ ap (before m) both
    ∙ before_is m (signed_decimal z) (marked_text m zs) (number_has_no m small z hz) (numbers_begin m zs) in
    let after = sym (onwards_is m (signed_decimal y) (marked_text m ys) (number_has_no m small y hy) (numbers_begin m ys)) ∙ ap (onwards m) both
    ∙ onwards_is m (signed_decimal z) (marked_text m zs) (number_has_no m small z hz) (numbers_begin m zs) in
    ap (λ x. x ∷ ys) (same_number y z hy hz field) ∙ ap (λ l. z ∷ l) (same_numbers m small ys zs (All-tail IsWide y ys wy) (All-tail IsWide z zs wz) after)
same_numbers m small ys zs wy wz e = let long = ap length e in absurd (omega (arith, long))

pub same_row_numbers : (word : List ℕ) (ys zs : List ℤ) → All IsWide ys → All IsWide zs → row_text word ys ≡ row_text word zs → ys ≡ zs
same_row_numbers word ys zs wy wz e = same_numbers 32 (omega arith) ys zs wy wz (append_cancel_left word (numbers_text ys) (numbers_text zs) e)

pub record Splits (as' bs : List (List ℕ)) (rest : List ℕ) : Type 0 where
  pub others : List (List ℕ)
  pub is : as' ≡ bs ++ others
  pub left : rest ≡ rows_text others

pub same_row : (a b x y : List ℕ) → HasNo 10 a → HasNo 10 b → a ++ 10 ∷ x ≡ b ++ 10 ∷ y → (a ≡ b) × (x ≡ y)
same_row a b x y na nb e = (
  sym (before_is 10 a (10 ∷ x) na refl) ∙ ap (before 10) e ∙ before_is 10 b (10 ∷ y) nb refl,
  ap (drop 1) (sym (onwards_is 10 a (10 ∷ x) na refl) ∙ ap (onwards 10) e ∙ onwards_is 10 b (10 ∷ y) nb refl),
)
