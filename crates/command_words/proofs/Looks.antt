-- How clap looks at a word: if it is cut, and which kind it is.
use Rattle.std.proofs.Common.{◌≡◌, ◌∙◌, refl, sym, ap, ℕ, Bool, [], ◌∷◌, ◌++◌, Option, Some, None, true, false, cond, ◌==◌, ◌||◌, ◌&&◌, arith}
use Rattle.std.proofs.Common.{true≢false, codes, option_map, subst, not}
use Rattle.std.proofs.{lemmas.Grind.common_steps, lemmas.Bool.Decides.same_from_decides, lemmas.Bool.Decides.Decides-like}
use Rattle.std.proofs.{lemmas.Slice.Eq.bytes_eq-Decides, lemmas.Bool.eqb-true, lemmas.Str.IsUtf8-past_char, lemmas.Str.encodes-chars}
use Rattle.std.specs.Str.{bytes_eq, chars, IsUtf8, encode_utf8_all}
use Rattle.std.specs.{List.after_first, List.before_first, Prelude.slice_get, Prelude.option_and_then, Char.encode_utf8}
use Rattle.clap.specs.Lexer.{has_byte, long_of, short_of, long_of_rest, short_of_rest, strip_byte}
use Rattle.clap.specs.Words.{Text}
use Rattle.command_words.specs.Words.{after, Place, Archive, Name, Cell, option_with_value, is_plain, option_word}
use Rattle.command_words.proofs.Turns.{place_named}

-- the byte is `=`
abbrev pub is_equals : ℕ → Bool
is_equals x = x == 61

before_cons : (x : ℕ) (xs : Text) → before_first is_equals (x ∷ xs) ≡ cond (is_equals x) [] (x ∷ before_first is_equals xs)
before_cons x xs = grind (arith, common_steps)

after_cons : (x : ℕ) (xs : Text) → after_first is_equals (x ∷ xs) ≡ cond (is_equals x) xs (after_first is_equals xs)
after_cons x xs = grind (arith, common_steps)

-- the text `=`
abbrev pub equals : Text
equals = 61 ∷ []

-- a name that has no `=` is no text that has one
pub other_text : (name text : Text) → has_byte 61 name ≡ false → has_byte 61 text ≡ true → bytes_eq text name ≡ false
other_text name [] e f = absurd (true≢false (sym f))
other_text [] (x ∷ xs) e f = refl
other_text (b ∷ bs) (x ∷ xs) e f = go (λ e f. other_text bs xs e f) (x == b) refl (b == 61) refl e
  where
    go : (has_byte 61 bs ≡ false → has_byte 61 xs ≡ true → bytes_eq xs bs ≡ false) → (s : Bool) → (x == b) ≡ s → (q : Bool) → (b == 61) ≡ q
        → (q || has_byte 61 bs) ≡ false → (s && bytes_eq xs bs) ≡ false
    go k s l q p r = grind arith

-- a text that has no `=` does not begin with a name and `=`
pub never_after : (name text : Text) → has_byte 61 text ≡ false → after (name ++ equals) text ≡ None
never_after [] [] e = refl
never_after [] (x ∷ xs) e = go (x == 61) e
  where
    go : (q : Bool) → (q || has_byte 61 xs) ≡ false → cond q (Some xs) None ≡ None
    go true h = absurd (true≢false h)
    go false h = refl
never_after (b ∷ bs) [] e = refl
never_after (b ∷ bs) (x ∷ xs) e = go (never_after bs xs) (x == b) (x == 61) e
  where
    go : (has_byte 61 xs ≡ false → after (bs ++ equals) xs ≡ None) → (s q : Bool) → (q || has_byte 61 xs) ≡ false → cond s (after (bs ++ equals) xs) None ≡ None
    go k s q l = search arith

-- a text that has no `=` is whole before the first one
pub before_whole : (text : Text) → has_byte 61 text ≡ false → before_first is_equals text ≡ text
before_whole [] e = refl
before_whole (x ∷ xs) e = before_cons x xs ∙ go (before_whole xs) (x == 61) e
  where
    go : (has_byte 61 xs ≡ false → before_first is_equals xs ≡ xs) → (q : Bool) → (q || has_byte 61 xs) ≡ false
        → cond q [] (x ∷ before_first is_equals xs) ≡ x ∷ xs
    go k q l = search arith

-- the value after `=`, if the name is this one
abbrev pub value_after : Text → Text → Text → Option Text
value_after name before rest = cond (bytes_eq name before) (Some rest) None

-- a text that has an `=` begins with a name and `=` where the name stands before its first `=`
pub after_name : (name text : Text) → has_byte 61 name ≡ false → has_byte 61 text ≡ true
    → after (name ++ equals) text ≡ value_after name (before_first is_equals text) (after_first is_equals text)
after_name name [] e f = absurd (true≢false (sym f))
after_name [] (x ∷ xs) e f = go (x == 61)
    ∙ ap (λ (t : Text). value_after [] t (cond (x == 61) xs (after_first is_equals xs))) (sym (before_cons x xs))
    ∙ ap (value_after [] (before_first is_equals (x ∷ xs))) (sym (after_cons x xs))
  where
    go : (q : Bool) → cond q (Some xs) None ≡ value_after [] (cond q [] (x ∷ before_first is_equals xs)) (cond q xs (after_first is_equals xs))
    go true = refl
    go false = refl
after_name (b ∷ bs) (x ∷ xs) e f = go (after_name bs xs) (x == b) refl (x == 61) refl (b == 61) refl e f
    ∙ ap (λ (t : Text). value_after (b ∷ bs) t (cond (x == 61) xs (after_first is_equals xs))) (sym (before_cons x xs))
    ∙ ap (value_after (b ∷ bs) (before_first is_equals (x ∷ xs))) (sym (after_cons x xs))
  where
    same : (x == b) ≡ (b == x)
    same = grind (arith, common_steps)

    apart : (x == 61) ≡ true → (b == 61) ≡ false → (x == b) ≡ false
    apart p q = grind (arith, common_steps)

    go : (has_byte 61 bs ≡ false → has_byte 61 xs ≡ true → after (bs ++ equals) xs ≡ value_after bs (before_first is_equals xs) (after_first is_equals xs))
        → (s : Bool) → (x == b) ≡ s → (q : Bool) → (x == 61) ≡ q → (r : Bool) → (b == 61) ≡ r → (r || has_byte 61 bs) ≡ false → (q || has_byte 61 xs) ≡ true
        → cond s (after (bs ++ equals) xs) None ≡ value_after (b ∷ bs) (cond q [] (x ∷ before_first is_equals xs)) (cond q xs (after_first is_equals xs))
    go l s p q t r u v w = grind arith

-- What an argument looks like to clap, and what it says.

-- an option that was found, with its value
abbrev pub found_as : Option Text → Option Place → Option (Place × Option Text)
found_as v found = option_map (λ p. (p, v)) found

-- an argument is `--`, or a name after `--`, or a bundle of flags after `-`, or plain
pub data Look (word : Text) : Type 0 where
  dashes : bytes_eq word (45 ∷ 45 ∷ []) ≡ true → Look word
  long : (name : Text) (v : Option Text) → bytes_eq word (45 ∷ 45 ∷ []) ≡ false → long_of word ≡ Some (name, v)
      → option_word word ≡ found_as v (place_named name) → is_plain word ≡ false → Look word
  short : (x : ℕ) (flags : Text) (c : ℕ) → bytes_eq word (45 ∷ 45 ∷ []) ≡ false → long_of word ≡ None → short_of word ≡ Some (x ∷ flags)
      → slice_get (chars (x ∷ flags)) 0 ≡ Some c → option_word word ≡ None → is_plain word ≡ false → Look word
  plain : bytes_eq word (45 ∷ 45 ∷ []) ≡ false → long_of word ≡ None → short_of word ≡ None → option_word word ≡ None → is_plain word ≡ true → Look word

same_text : (a b : Text) → bytes_eq a b ≡ bytes_eq b a
same_text a b = same_from_decides (bytes_eq a b) (bytes_eq b a) (bytes_eq-Decides a b) (Decides-like (bytes_eq b a) sym sym (bytes_eq-Decides b a))

-- the three names
abbrev archive_text : Text
archive_text = codes "archive"

abbrev name_text : Text
name_text = codes "name"

abbrev cell_text : Text
cell_text = codes "cell"

-- the option, by what the argument is compared with
abbrev option_spelled : Bool → Bool → Bool → Option Text → Option Text → Option Text → Option (Place × Option Text)
option_spelled a n c x y z = cond a (Some (Archive, None)) (cond n (Some (Name, None)) (cond c (Some (Cell, None)) (option_with_value x y z)))

-- the option, by which name it has
abbrev option_named : Bool → Bool → Bool → Option Place
option_named a n c = cond a (Some Archive) (cond n (Some Name) (cond c (Some Cell) None))

-- the value after the first `=`
abbrev pub value_of : Text → Option Text
value_of t = cond (has_byte 61 t) (Some (after_first is_equals t)) None

-- an argument without `=`
long_alone : (t : Text) → has_byte 61 t ≡ false → option_word (45 ∷ 45 ∷ t) ≡ found_as None (place_named (before_first is_equals t))
long_alone t e =
    (λ i. option_spelled (bytes_eq t archive_text) (bytes_eq t name_text) (bytes_eq t cell_text) (never_after archive_text t e i) (never_after name_text t e i)
    (never_after cell_text t e i))
    ∙ (λ i. option_spelled (same_text t archive_text i) (same_text t name_text i) (same_text t cell_text i) None None None)
    ∙ go (bytes_eq archive_text t) (bytes_eq name_text t) (bytes_eq cell_text t)
    ∙ ap (λ (s : Text). found_as None (place_named s)) (sym (before_whole t e))
  where
    go : (a n c : Bool) → option_spelled a n c None None None ≡ found_as None (option_named a n c)
    go a n c = grind arith

-- an argument with `=`
long_given : (t : Text) → has_byte 61 t ≡ true → option_word (45 ∷ 45 ∷ t) ≡ found_as (Some (after_first is_equals t)) (place_named (before_first is_equals t))
long_given t e =
    (λ i. option_spelled (other_text archive_text t refl e i) (other_text name_text t refl e i) (other_text cell_text t refl e i)
    (after (archive_text ++ equals) t) (after (name_text ++ equals) t)
    (after (cell_text ++ equals) t))
    ∙ (λ i. option_with_value (after_name archive_text t refl e i) (after_name name_text t refl e i) (after_name cell_text t refl e i))
    ∙ go (bytes_eq archive_text (before_first is_equals t)) (bytes_eq name_text (before_first is_equals t)) (bytes_eq cell_text (before_first is_equals t))
    (after_first is_equals t)
  where
    go : (a n c : Bool) (r : Text) → option_with_value (cond a (Some r) None) (cond n (Some r) None) (cond c (Some r) None) ≡ found_as (Some r)
        (option_named a n c)
    go a n c r = grind arith

-- both readings of an argument with `--` agree
pub option_long : (t : Text) → option_word (45 ∷ 45 ∷ t) ≡ found_as (value_of t) (place_named (before_first is_equals t))
option_long t = go (has_byte 61 t) refl
  where
    go : (b : Bool) → has_byte 61 t ≡ b → option_word (45 ∷ 45 ∷ t) ≡ found_as (cond b (Some (after_first is_equals t)) None)
        (place_named (before_first is_equals t))
    go true e = long_given t e
    go false e = long_alone t e

-- Each argument has one of the looks.

-- the option of an argument, by whether its first byte is `-`
abbrev option_by : Bool → Text → Option (Place × Option Text)
option_by q bs =
    cond (q && bytes_eq bs (codes "-archive")) (Some (Archive, None))
    (cond (q && bytes_eq bs (codes "-name")) (Some (Name, None))
    (cond (q && bytes_eq bs (codes "-cell")) (Some (Cell, None))
    (option_with_value (cond q (after (codes "-archive=") bs) None) (cond q (after (codes "-name=") bs) None) (cond q (after (codes "-cell=") bs) None))))

-- and of an argument that begins with `-`, by whether its second is
abbrev option_second : Bool → Text → Option (Place × Option Text)
option_second q bs =
    cond (q && bytes_eq bs (codes "archive")) (Some (Archive, None))
    (cond (q && bytes_eq bs (codes "name")) (Some (Name, None))
    (cond (q && bytes_eq bs (codes "cell")) (Some (Cell, None))
    (option_with_value (cond q (after (codes "archive=") bs) None) (cond q (after (codes "name=") bs) None) (cond q (after (codes "cell=") bs) None))))

-- a text that is not empty has a first character
some_char : (word : Text) (x : ℕ) (rest : Text) → word ≡ x ∷ rest → encode_utf8_all (chars word) ≡ word → (c : ℕ) × (slice_get (chars word) 0 ≡ Some c)
some_char word x rest is spells = go (chars word) refl
  where
    tag : Text → Type 0
    tag [] = ⊥
    tag (y ∷ ys) = Unit {0}

    go : (cs : Text) → chars word ≡ cs → (c : ℕ) × (slice_get cs 0 ≡ Some c)
    go [] e = absurd (subst tag (sym is ∙ sym spells ∙ ap encode_utf8_all e) tt)
    go (c ∷ cs) e = (c, refl)

flags_char : (x : ℕ) (flags : Text) → IsUtf8 (45 ∷ x ∷ flags) → (c : ℕ) × (slice_get (chars (x ∷ flags)) 0 ≡ Some c)
unfolding encode_utf8
flags_char x flags u = some_char (x ∷ flags) x flags refl (encodes-chars (x ∷ flags) (IsUtf8-past_char (45 ∷ x ∷ flags) (x ∷ flags) 45 u refl))

look_of_dash : (bs : Text) → IsUtf8 (45 ∷ bs) → Look (45 ∷ bs)
look_of_dash [] u = plain refl refl refl refl refl
look_of_dash (x ∷ xs) u = go (x == 45) refl
  where
    both : (xs : Text) → Look (45 ∷ 45 ∷ xs)
    both [] = dashes refl
    both (y ∷ ys) = long _ _ refl refl (option_long (y ∷ ys)) refl

    go : (q : Bool) → (x == 45) ≡ q → Look (45 ∷ x ∷ xs)
    go true e = subst (λ (y : ℕ). Look (45 ∷ y ∷ xs)) (sym (eqb-true x 45 e)) (both xs)
    go false e = short x xs (flags_char x xs u).0
        (ap (λ (q : Bool). q && bytes_eq xs []) e)
        (ap (λ (q : Bool). option_and_then long_of_rest (cond q (Some xs) None)) e)
        (ap (λ (q : Bool). cond q None (Some (x ∷ xs))) e)
        (flags_char x xs u).1
        (ap (λ (q : Bool). option_second q xs) e)
        refl

pub look : (word : Text) → IsUtf8 word → Look word
look [] u = plain refl refl refl refl refl
look (b ∷ bs) u = go (b == 45) refl
  where
    go : (q : Bool) → (b == 45) ≡ q → Look (b ∷ bs)
    go true e = subst Look (ap (λ (y : ℕ). y ∷ bs) (sym (eqb-true b 45 e))) (look_of_dash bs (subst IsUtf8 (ap (λ (y : ℕ). y ∷ bs) (eqb-true b 45 e)) u))
    go false e = plain
        (ap (λ (q : Bool). q && bytes_eq bs (45 ∷ [])) e)
        (ap (λ (q : Bool). option_and_then long_of_rest (option_and_then (strip_byte 45) (cond q (Some bs) None))) e)
        (ap (λ (q : Bool). option_and_then short_of_rest (cond q (Some bs) None)) e)
        (ap (λ (q : Bool). option_by q bs) e)
        (ap (λ (q : Bool). not q || (q && bytes_eq bs [])) e)
