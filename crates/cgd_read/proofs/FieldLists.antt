-- What the fields of a line say, read one by one.
use Rattle.std.proofs.Common.{◌≡◌, ℕ, ◌+◌, ◌≤◌, ◌<◌, ◌==◌, nat_lt, Bool, true, false, cond, ◌||◌, ◌&&◌, List, [], ◌∷◌, length, drop, fold, None, is_none}
use Rattle.std.proofs.Common.{pos, refl, sym, ap, subst, ◌∙◌, arith}
use Rattle.std.{proofs.lemmas.Bool.Decides.nat_tests, proofs.Math.Bool.or_assoc, proofs.Math.Bool.or-false, specs.List.list_any}
use Rattle.cgd_lex.specs.{Tokens.TokenView, Words.is_quoted, Words.name_in}
use Rattle.cgd_read.specs.Lines.{FieldsView, fields_of, is_strange, name_of_fields, part_or_zero, text_of_first, part_of_first, LineView, line_with}
use Rattle.cgd_read.specs.Lines.{fields_from, kind_of}
use Rattle.cgd_read.specs.Reading.{no_fields, with_field, IsFlat}
use Rattle.cgd_read.specs.Values.{part_of}

abbrev pub with_all : FieldsView → List TokenView → FieldsView
with_all fields tokens = fold with_field fields tokens

unequal : (n k : ℕ) → k < n → (n == k) ≡ false
unequal n k l = grind (arith, nat_tests, l)

late : (n : ℕ) → 2 ≤ n → nat_lt 1 n ≡ true
late n l = grind (arith, nat_tests, l)

sizes : (f : FieldsView) (ts : List TokenView) → (with_all f ts).size ≡ f.size + length ts
sizes f [] = omega arith
sizes f (t ∷ ts) = omega (arith, sizes (with_field f t) ts)

no_name : (f : FieldsView) (ts : List TokenView) → 1 ≤ f.size → f.name ≡ None → (with_all f ts).name ≡ None
no_name f [] l e = e
no_name f (t ∷ ts) l e = no_name (with_field f t) ts (omega (arith, l)) (ap (λ b. cond b (name_in t) None) (unequal f.size 0 l))

names : (ts : List TokenView) → (with_all no_fields ts).name ≡ name_of_fields ts
names [] = refl
names (a ∷ []) = refl
names (a ∷ b ∷ ts) = no_name (with_field (with_field no_fields a) b) ts (omega arith) refl

any_strange : (f : FieldsView) (ts : List TokenView) → (with_all f ts).has_strange ≡ (f.has_strange || list_any (λ (t : TokenView). is_strange t.kind) ts)
any_strange f [] = sym (or-false f.has_strange)
any_strange f (t ∷ ts) = any_strange (with_field f t) ts ∙ or_assoc f.has_strange (is_strange t.kind) _

quotes_after : (f : FieldsView) (ts : List TokenView) → 2 ≤ f.size → (with_all f ts).has_late_quote ≡
    (f.has_late_quote || list_any (λ (t : TokenView). is_quoted t.kind) ts)
quotes_after f [] l = sym (or-false f.has_late_quote)
quotes_after f (t ∷ ts) l =
    quotes_after (with_field f t) ts (omega (arith, l))
    ∙ ap (λ b. (f.has_late_quote || (b && is_quoted t.kind)) || list_any (λ (t : TokenView). is_quoted t.kind) ts) (late f.size l)
    ∙ or_assoc f.has_late_quote (is_quoted t.kind) _

parts_after : (f : FieldsView) (ts : List TokenView) → 2 ≤ f.size → (with_all f ts).has_far_part ≡
    (f.has_far_part || list_any (λ (t : TokenView). is_none (part_of t.text)) ts)
parts_after f [] l = sym (or-false f.has_far_part)
parts_after f (t ∷ ts) l =
    parts_after (with_field f t) ts (omega (arith, l))
    ∙ ap (λ b. (f.has_far_part || (b && is_none (part_of t.text))) || list_any (λ (t : TokenView). is_none (part_of t.text)) ts) (late f.size l)
    ∙ or_assoc f.has_far_part (is_none (part_of t.text)) _

late_quotes : (ts : List TokenView) → (with_all no_fields ts).has_late_quote ≡ list_any (λ (t : TokenView). is_quoted t.kind) (drop 2 ts)
late_quotes ts = search (arith, quotes_after)

far_parts : (ts : List TokenView) → (with_all no_fields ts).has_far_part ≡ list_any (λ (t : TokenView). is_none (part_of t.text)) (drop 2 ts)
far_parts ts = search (arith, parts_after)

-- a field that was read stays

u_stays : (f : FieldsView) (ts : List TokenView) → 1 ≤ f.size → (with_all f ts).u ≡ f.u
u_stays f [] l = refl
u_stays f (t ∷ ts) l = u_stays (with_field f t) ts (omega (arith, l)) ∙ ap (λ b. cond b t.text f.u) (unequal f.size 0 l)

v_stays : (f : FieldsView) (ts : List TokenView) → 2 ≤ f.size → (with_all f ts).v ≡ f.v
v_stays f [] l = refl
v_stays f (t ∷ ts) l = v_stays (with_field f t) ts (omega (arith, l)) ∙ ap (λ b. cond b t.text f.v) (unequal f.size 1 l)

x_stays : (f : FieldsView) (ts : List TokenView) → 3 ≤ f.size → (with_all f ts).x ≡ f.x
x_stays f [] l = refl
x_stays f (t ∷ ts) l = x_stays (with_field f t) ts (omega (arith, l)) ∙ ap (λ b. cond b (part_or_zero (part_of t.text)) f.x) (unequal f.size 2 l)

y_stays : (f : FieldsView) (ts : List TokenView) → 4 ≤ f.size → (with_all f ts).y ≡ f.y
y_stays f [] l = refl
y_stays f (t ∷ ts) l = y_stays (with_field f t) ts (omega (arith, l)) ∙ ap (λ b. cond b (part_or_zero (part_of t.text)) f.y) (unequal f.size 3 l)

z_stays : (f : FieldsView) (ts : List TokenView) → 5 ≤ f.size → (with_all f ts).z ≡ f.z
z_stays f [] l = refl
z_stays f (t ∷ ts) l = z_stays (with_field f t) ts (omega (arith, l)) ∙ ap (λ b. cond b (part_or_zero (part_of t.text)) f.z) (unequal f.size 4 l)

us : (ts : List TokenView) → (with_all no_fields ts).u ≡ text_of_first ts
us ts = search (arith, u_stays)

vs : (ts : List TokenView) → (with_all no_fields ts).v ≡ text_of_first (drop 1 ts)
vs ts = search (arith, v_stays)

xs : (ts : List TokenView) → (with_all no_fields ts).x ≡ part_of_first (drop 2 ts)
xs ts = grind (arith, x_stays)

ys : (ts : List TokenView) → (with_all no_fields ts).y ≡ part_of_first (drop 3 ts)
ys ts = grind (arith, y_stays)

zs : (ts : List TokenView) → (with_all no_fields ts).z ≡ part_of_first (drop 4 ts)
zs ts = grind (arith, z_stays)

same : (f g : FieldsView) → f.size ≡ g.size → f.name ≡ g.name → f.has_strange ≡ g.has_strange → f.has_late_quote ≡ g.has_late_quote
    → f.has_far_part ≡ g.has_far_part
    → f.u ≡ g.u → f.v ≡ g.v → f.x ≡ g.x → f.y ≡ g.y → f.z ≡ g.z → f ≡ g
same f g a b c d e h i j k l = search arith

-- the fields read one by one are the fields of the line
pub all_fields : (ts : List TokenView) → with_all no_fields ts ≡ fields_of ts
all_fields ts = same (with_all no_fields ts) (fields_of ts) (sizes no_fields ts ∙ omega arith) (names ts) (any_strange no_fields ts) (late_quotes ts)
    (far_parts ts) (us ts) (vs ts) (xs ts) (ys ts) (zs ts)

-- the same, with the first token before them if it is a field
pub fields_after : (bare : Bool) (first : TokenView) (others : List TokenView)
    → with_all (cond bare (with_field no_fields first) no_fields) others ≡ fields_of (cond bare (first ∷ others) others)
fields_after true first others = all_fields (first ∷ others)
fields_after false first others = all_fields others

pub flat_tokens : (ts : List TokenView) → length ts ≤ 4 → part_of_first (drop 4 ts) ≡ pos 0
flat_tokens ts h = search arith

-- a line with four fields or fewer has no third part of a shift
pub line_is_flat : (line : LineView) (first : TokenView) (others : List TokenView) → line ≡ line_with first others → IsFlat line.fields
line_is_flat line first others e = subst (λ (l : LineView). IsFlat l.fields) (sym e) (flat_tokens (fields_from (kind_of first.kind first.text) first others))
