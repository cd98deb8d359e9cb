-- A text that is printed is that of one value alone.
use Rattle.std.proofs.Common.{◌≡◌, ℕ, zero, suc, ◌+◌, ◌-◌, ◌/◌, ◌%◌, ◌<◌, ◌≤◌, ◌==◌, nat_lt, false, ℤ, pos, negsuc, List, [], ◌∷◌}
use Rattle.std.proofs.Common.{◌++◌, length, All, Option, None, Some, inl, inr, refl, sym, ap, ◌∙◌, arith}
use Rattle.std.proofs.lemmas.List.{append_cancel_left, append_cancel_right, length-append}
use Rattle.std.proofs.lemmas.List.Elements.{All-head}
use Rattle.std.proofs.lemmas.Fmt.{decimal_is_IsNumeral_wide}
use Rattle.std.proofs.lemmas.Bool.{cases_Bool, ne_eqb}
use Rattle.std.specs.{Prelude.codes, Prelude.option_copied, Prelude.slice_index_or, Str.Parse.digits_value}
use Rattle.std.specs.Fmt.{decimal, digit_glyph, digits, digits_onto, signed_decimal}
use mathlib.Core.List.{append_assoc}
use Rattle.line_text.specs.Lines.{before, onwards, HasNo, BeginsWith}
use Rattle.line_text.specs.Numbers.{IsWide, list_text, numbers_text, field_text}
use Rattle.line_text.proofs.CallerLemmas.{before_is, digits_have_no, onwards_is, same_numbers, same_row, sum_has_no}
use Rattle.least_key.specs.AnyNets.{net_view}
use Rattle.least_key.specs.declared.refusal.Refusal.{Refusal}
use Rattle.cgd_read.specs.declared.block.BlockFaultKind.{BlockFaultKind}
use Rattle.cgd_read.specs.declared.block.BlockFault.{BlockFault}
use Rattle.cgd_read.specs.Faults.{number_of_kind}
use Rattle.net_report.specs.Headers.{name_text, header_text, size_text, unsupported_text, unsupported_word, fault_text}
use Rattle.barycentre.specs.declared.faults.WideSite.{WideSite}
use Rattle.barycentre.specs.declared.faults.WideSite.TheVariants.{Denominator, ArcPart, Beyond}
use Rattle.elimination.specs.declared.place.Place.{Place}
use Rattle.integers.specs.Vectors.{Vector, parts}
use Rattle.quotient_graph.specs.declared.split.Split.{Split}
use Rattle.net_report.specs.Refusals.{Disconnected, Degenerate, NoModulus, WidePlacement, Collision, TooMuch, NoMemory}
use Rattle.net_report.specs.{KindNames.kind_name, Keys.key_text, Numbers.vertex_text}
use Rattle.net_report.specs.Refusals.{refused_text, refusal_name, refusal_details, arc_text, collision_text, place_text, site_text, split_text, value_text}
use Rattle.net_report.specs.Reports.{body_text, outcome_text, report_text}
use Rattle.net_report.specs.declared.outcome.{Size.Size, Outcome.Outcome, OutcomeBody.OutcomeBody}
use Rattle.net_report.specs.declared.outcome.OutcomeBody.TheVariants.{Unsupported, Malformed, Faulty, Refused, Checked, Located, Keyed, Identified, Lines}
use Rattle.net_report.specs.Telling.{AreEach, IsShort, IsShortSize, IsOnLine, IsBodyOnLines, IsBodyPrintedWhole, IsLegible, ReportAlike, AreReportedAlike}
use Rattle.net_report.specs.Telling.{KeyLinesTell, ReportsTell}
use Rattle.net_report.specs.TellingRows.{first_byte}

-- Lines: a text with one line feed, at its end.

pub record IsLine (text : List ℕ) : Type 0 where
  pub front : List ℕ
  pub none : HasNo 10 front
  pub is : text ≡ front ++ 10 ∷ []

pub line : (front : List ℕ) → HasNo 10 front → IsLine (front ++ codes "\n")
line front none = record { front = front; none = none; is = refl }

-- sums of three and of four
pub three_none : (a b c : List ℕ) → HasNo 10 a → HasNo 10 b → HasNo 10 c → HasNo 10 (a ++ b ++ c)
three_none a b c h k l = sum_has_no 10 (a ++ b) c (sum_has_no 10 a b h k) l

pub four_none : (a b c d : List ℕ) → HasNo 10 a → HasNo 10 b → HasNo 10 c → HasNo 10 d → HasNo 10 (a ++ b ++ c ++ d)
four_none a b c d h k l m = sum_has_no 10 (a ++ b ++ c) d (three_none a b c h k l) m

pub from_right : (a b c d : List ℕ) → a ++ b ++ c ++ d ≡ a ++ (b ++ (c ++ d))
from_right a b c d = append_assoc (a ++ b) c d ∙ append_assoc a b (c ++ d)

pub five_from_right : (a b c d e : List ℕ) → a ++ b ++ c ++ d ++ e ≡ a ++ (b ++ (c ++ (d ++ e)))
five_from_right a b c d e = append_assoc (a ++ b ++ c) d e ∙ from_right a b c (d ++ e)

-- a text that begins with a line begins with no other
pub same_lines : (a b s t : List ℕ) → IsLine a → IsLine b → a ++ s ≡ b ++ t → (a ≡ b) × (s ≡ t)
same_lines a b s t l k e =
    let one : a ++ s ≡ l.front ++ 10 ∷ s = ap (λ x. x ++ s) l.is ∙ append_assoc l.front (10 ∷ []) s in
    let two : b ++ t ≡ k.front ++ 10 ∷ t = ap (λ x. x ++ t) k.is ∙ append_assoc k.front (10 ∷ []) t in
    let r = same_row l.front k.front s t l.none k.none (sym one ∙ e ∙ two) in
    (l.is ∙ ap (λ x. x ++ 10 ∷ []) r.0 ∙ sym k.is, r.1)

-- Numbers.

-- the digits of a number are no line feed, also of one that is not printed whole
digits_on_line : (k n : ℕ) (after : List ℕ) → HasNo 10 after → HasNo 10 (digits_onto k 10 false n after)
digits_on_line zero n after h = h
digits_on_line (suc k) n after h =
    let one : digit_glyph false (n % 10) == 10 ≡ false = no_line_feed (n % 10) in
    elim (cases_Bool (n / 10 == 0)) [
      | inl yes_ ↦ rw yes_ (one, h)
      | inr no_ ↦ rw no_ (digits_on_line k (n / 10) (digit_glyph false (n % 10) ∷ after) (one, h))
    ]
  where
    no_line_feed : (d : ℕ) → digit_glyph false d == 10 ≡ false
    no_line_feed d = elim (cases_Bool (nat_lt d 10)) [
      | inl yes_ ↦ rw yes_ (ne_eqb (48 + d) 10 (λ e. omega (arith, e)))
      | inr no_ ↦ rw no_ (ne_eqb (87 + d) 10 (λ e. omega (arith, e)))
    ]

decimal_on_line : (n : ℕ) → HasNo 10 (decimal n)
unfolding digits
decimal_on_line n = digits_on_line 64 n [] tt

pub decimal_none : (m n : ℕ) → m < 48 → IsShort n → HasNo m (decimal n)
decimal_none m n small short = digits_have_no m small (decimal n) (decimal_is_IsNumeral_wide n short).0.1

pub same_short : (j k : ℕ) → IsShort j → IsShort k → decimal j ≡ decimal k → j ≡ k
same_short j k sj sk e = sym (decimal_is_IsNumeral_wide j sj).1 ∙ ap (digits_value 10) e ∙ (decimal_is_IsNumeral_wide k sk).1

-- a number after its label, before a mark or the end
pub same_field : (m : ℕ) (label : List ℕ) (j k : ℕ) (s t : List ℕ) → m < 48 → IsShort j → IsShort k → BeginsWith m s → BeginsWith m t
    → field_text label j ++ s ≡ field_text label k ++ t → (j ≡ k) × (s ≡ t)
same_field m label j k s t small sj sk bs bt e =
    let both : decimal j ++ s ≡ decimal k ++ t = append_cancel_left label (decimal j ++ s) (decimal k ++ t)
    (sym (append_assoc label (decimal j) s) ∙ e ∙ append_assoc label (decimal k) t) in
    let nj = decimal_none m j small sj in let nk = decimal_none m k small sk in (
      same_short j k sj sk (sym (before_is m (decimal j) s nj bs) ∙ ap (before m) both ∙ before_is m (decimal k) t nk bt),
      sym (onwards_is m (decimal j) s nj bs) ∙ ap (onwards m) both ∙ onwards_is m (decimal k) t nk bt,
    )

pub field_none : (label : List ℕ) (n : ℕ) → HasNo 10 label → HasNo 10 (field_text label n)
field_none label n none = sum_has_no 10 label (decimal n) none (decimal_on_line n)

number_some : (z : ℤ) → IsWide z → 1 ≤ length (signed_decimal z)
number_some (pos n) w = let k = (decimal_is_IsNumeral_wide n (omega (arith, w.sfits))).0.0 in omega (arith, k)
number_some (negsuc n) w = omega arith

signed_on_line : (z : ℤ) → HasNo 10 (signed_decimal z)
signed_on_line (pos n) = decimal_on_line n
signed_on_line (negsuc n) = (refl, decimal_on_line (suc n))

numbers_on_line : (zs : List ℤ) → HasNo 10 (numbers_text zs)
numbers_on_line [] = tt
numbers_on_line (z ∷ zs) = (refl, sum_has_no 10 (signed_decimal z) (numbers_text zs) (signed_on_line z) (numbers_on_line zs))

pub list_none : (zs : List ℤ) → HasNo 10 (list_text zs)
list_none [] = tt
list_none (z ∷ zs) = sum_has_no 10 (signed_decimal z) (numbers_text zs) (signed_on_line z) (numbers_on_line zs)

no_list : (y : ℤ) (ys : List ℤ) → IsWide y → [] ≡ list_text (y ∷ ys) → ⊥
no_list y ys w e =
    let long = ap length e in let sum = length-append (signed_decimal y) (numbers_text ys) in let some = number_some y w in
    omega (arith, long, sum, some)

pub same_list_text : (xs ys : List ℤ) → All IsWide xs → All IsWide ys → list_text xs ≡ list_text ys → xs ≡ ys
same_list_text [] [] wx wy e = refl
same_list_text [] (y ∷ ys) wx wy e = absurd (no_list y ys (All-head IsWide y ys wy) e)
same_list_text (x ∷ xs) [] wx wy e = absurd (no_list x xs (All-head IsWide x xs wx) (sym e))
same_list_text (x ∷ xs) (y ∷ ys) wx wy e = same_numbers 32 (omega arith) (x ∷ xs) (y ∷ ys) wx wy (ap (λ l. 32 ∷ l) e)

-- The lines of a report of `key`.

pub key_lines_tell : KeyLinesTell
key_lines_tell xs ys wx wy e = same_list_text xs ys wx wy
    (append_cancel_right (list_text xs) (list_text ys) (codes "\n")
    (append_cancel_left (codes "key ") (list_text xs ++ codes "\n") (list_text ys ++ codes "\n") e))

pub key_line : (xs : List ℤ) → IsLine (key_text xs)
key_line xs = line (codes "key " ++ list_text xs) (sum_has_no 10 (codes "key ") (list_text xs) (refl, (refl, (refl, (refl, tt)))) (list_none xs))

kind_none : (kind : BlockFaultKind) → HasNo 10 (kind_name kind)
kind_none kind = search arith

fault_line : (f : BlockFault) → IsLine (fault_text f)
fault_line f =
    let one = field_text (codes "malformed line=") f.line in let two = field_text (codes " ") (number_of_kind f.kind) in
    line (one ++ two ++ codes " " ++ kind_name f.kind)
    (four_none one two (codes " ") (kind_name f.kind) (field_none (codes "malformed line=") f.line (search arith))
    (field_none (codes " ") (number_of_kind f.kind) (search arith)) (refl, tt) (kind_none f.kind))

refused_name_none : (r : Refusal) → HasNo 10 (refusal_name r)
refused_name_none r = search arith

-- What is reported after the name of a refusal stands on its line.

name_at : (names : List (List ℕ)) (i : ℕ) → AreEach (HasNo 10) names → HasNo 10 (slice_index_or names i [])
name_at [] i on = tt
name_at (name ∷ names) zero on = on.0
name_at (name ∷ names) (suc i) on = name_at names i on.1

pub vertex_on_line : (names : List (List ℕ)) (u : ℕ) → AreEach (HasNo 10) names → HasNo 10 (vertex_text names u)
vertex_on_line names u on = elim (cases_Bool (length names == 0)) [
  | inl yes_ ↦ rw yes_ (decimal_on_line u)
  | inr no_ ↦ rw no_ (name_at names (u - 1) on)
]

value_on_line : (site : WideSite) (value : ℤ) → HasNo 10 (value_text site value)
value_on_line site value = search (arith, sum_has_no, signed_on_line)

ends_on_line : (names : List (List ℕ)) (u v : ℕ) → AreEach (HasNo 10) names
    → HasNo 10 (codes " u=" ++ vertex_text names u ++ codes " v=" ++ vertex_text names v)
ends_on_line names u v on =
    four_none (codes " u=") (vertex_text names u) (codes " v=") (vertex_text names v) (search arith) (vertex_on_line names u on) (search arith)
    (vertex_on_line names v on)

arc_on_line : (names : List (List ℕ)) (dim u v : ℕ) (s : Vector) → AreEach (HasNo 10) names → HasNo 10 (arc_text names dim u v s)
arc_on_line names dim u v s on =
    three_none (codes " u=" ++ vertex_text names u ++ codes " v=" ++ vertex_text names v) (codes " s=") (list_text (parts dim s)) (ends_on_line names u v on)
    (search arith) (list_none (parts dim s))

place_on_line : (at : Place) → HasNo 10 (place_text at)
place_on_line at =
    let a = field_text (codes " part=") at.part in let b = field_text (codes " k=") at.k in let c = field_text (codes " i=") at.i in
    let d = field_text (codes " j=") at.j in
    sum_has_no 10 (a ++ b ++ c ++ d) (field_text (codes " c=") at.c) (four_none a b c d (field_none (codes " part=") at.part (search arith))
    (field_none (codes " k=") at.k (search arith)) (field_none (codes " i=") at.i (search arith)) (field_none (codes " j=") at.j (search arith)))
    (field_none (codes " c=") at.c (search arith))

site_on_line : (names : List (List ℕ)) (dim : ℕ) (site : WideSite) → AreEach (HasNo 10) names → HasNo 10 (site_text names dim site)
site_on_line names dim (Denominator u c) on =
    three_none (codes " denominator u=") (vertex_text names u) (field_text (codes " c=") c) (search arith) (vertex_on_line names u on)
    (field_none (codes " c=") c (search arith))
site_on_line names dim (ArcPart u v s c) on =
    three_none (codes " arc") (arc_text names dim u v s) (field_text (codes " c=") c) (search arith) (arc_on_line names dim u v s on)
    (field_none (codes " c=") c (search arith))
site_on_line names dim (Beyond at) on = sum_has_no 10 (codes " beyond") (place_text at) (search arith) (place_on_line at)

split_on_line : (s : Split) → HasNo 10 (split_text s)
split_on_line s =
    let q = field_text (codes " q=") s.q in let c = list_text (parts s.dim s.c) in
    three_none (q ++ codes " c=" ++ c) (codes " h=") (list_text s.h) (three_none q (codes " c=") c (field_none (codes " q=") s.q (search arith)) (search arith)
    (list_none (parts s.dim s.c))) (search arith) (list_none s.h)

collision_on_line : (names : List (List ℕ)) (dim u v : ℕ) (t : Vector) → AreEach (HasNo 10) names → HasNo 10 (collision_text names dim u v t)
collision_on_line names dim u v t on =
    three_none (codes " u=" ++ vertex_text names u ++ codes " v=" ++ vertex_text names v) (codes " t=") (list_text (parts dim t)) (ends_on_line names u v on)
    (search arith) (list_none (parts dim t))

details_on_line : (names : List (List ℕ)) (r : Refusal) → AreEach (HasNo 10) names → HasNo 10 (refusal_details names r)
details_on_line names (Disconnected split) on = split_on_line split
details_on_line names (Degenerate split) on = split_on_line split
details_on_line names (WidePlacement w) on =
    sum_has_no 10 (site_text names w.dim w.site) (value_text w.site w.value) (site_on_line names w.dim w.site on) (value_on_line w.site w.value)
details_on_line names (Collision dim u v t) on = collision_on_line names dim u v t on
details_on_line names (TooMuch done counted) on =
    sum_has_no 10 (field_text (codes " starts=") done) (field_text (codes " counted=") counted) (field_none (codes " starts=") done (search arith))
    (field_none (codes " counted=") counted (search arith))
details_on_line names (NoModulus first second third) on =
    three_none (field_text (codes " pivots=") first) (field_text (codes " ") second) (field_text (codes " ") third)
    (field_none (codes " pivots=") first (search arith)) (field_none (codes " ") second (search arith)) (field_none (codes " ") third (search arith))
details_on_line names NoMemory on = tt

refused_line : (names : List (List ℕ)) (r : Refusal) → AreEach (HasNo 10) names → IsLine (refused_text names r)
refused_line names r on =
    line (codes "refused " ++ refusal_name r ++ refusal_details names r)
    (three_none (codes "refused ") (refusal_name r) (refusal_details names r) (search arith) (refused_name_none r) (details_on_line names r on))

unsupported_line : (token : List ℕ) → HasNo 10 token → IsLine (unsupported_text token)
unfolding unsupported_word
unsupported_line token none = line (codes "unsupported " ++ token) (sum_has_no 10 (codes "unsupported ") token (search arith) none)

size_line : (s : Size) → IsLine (size_text s)
size_line s =
    let a = field_text (codes "graph d=") s.dim in let b = field_text (codes " vertices=") s.vertices in let c = field_text (codes " edges=") s.edges in
    let d = field_text (codes " repeats=") s.repeats in
    line (a ++ b ++ c ++ d) (four_none a b c d (field_none (codes "graph d=") s.dim (search arith))
    (field_none (codes " vertices=") s.vertices (search arith)) (field_none (codes " edges=") s.edges (search arith))
    (field_none (codes " repeats=") s.repeats (search arith)))

-- the sizes from the right
size_parts : (s : Size) → size_text s ≡ field_text (codes "graph d=") s.dim ++ (field_text (codes " vertices=") s.vertices
    ++ (field_text (codes " edges=") s.edges ++ (field_text (codes " repeats=") s.repeats ++ codes "\n")))
size_parts s = five_from_right (field_text (codes "graph d=") s.dim) (field_text (codes " vertices=") s.vertices) (field_text (codes " edges=") s.edges)
    (field_text (codes " repeats=") s.repeats) (codes "\n")

same_size : (s t : Size) → IsShortSize s → IsShortSize t → size_text s ≡ size_text t → s ≡ t
same_size s t h k e =
    let a = same_field 32 (codes "graph d=") s.dim t.dim _ _ (omega arith) h.dim k.dim refl refl (sym (size_parts s) ∙ e ∙ size_parts t) in
    let b = same_field 32 (codes " vertices=") s.vertices t.vertices _ _ (omega arith) h.vertices k.vertices refl refl a.1 in
    let c = same_field 32 (codes " edges=") s.edges t.edges _ _ (omega arith) h.edges k.edges refl refl b.1 in
    let d = same_field 10 (codes " repeats=") s.repeats t.repeats (codes "\n") (codes "\n") (omega arith) h.repeats k.repeats refl refl c.1 in
    λ i. record { dim = a.0 i; vertices = b.0 i; edges = c.0 i; repeats = d.0 i }

name_none : (name : Option (List ℕ)) → IsOnLine name → HasNo 10 (name_text name)
name_none None h = tt
name_none (Some name) h = sum_has_no 10 (codes " \"") (name ++ codes "\"") (refl, (refl, tt)) (sum_has_no 10 name (codes "\"") h (refl, tt))

same_name : (a b : Option (List ℕ)) → name_text a ≡ name_text b → a ≡ b
same_name None None e = refl
same_name None (Some b) e = let long = ap length e in absurd (omega (arith, long))
same_name (Some a) None e = let long = ap length e in absurd (omega (arith, long))
same_name (Some a) (Some b) e = ap Some (append_cancel_right a b (codes "\"") (append_cancel_left (codes " \"") (a ++ codes "\"") (b ++ codes "\"") e))

header_line : (n l : ℕ) (name : Option (List ℕ)) → IsOnLine name → IsLine (header_text n l name)
header_line n l name on =
    let one = field_text (codes "net ") n in let two = field_text (codes " line ") l in
    line (one ++ two ++ name_text name) (three_none one two (name_text name) (field_none (codes "net ") n (search arith))
    (field_none (codes " line ") l (search arith)) (name_none name on))

-- a header from the right
header_parts : (n l : ℕ) (name : Option (List ℕ)) → header_text n l name
    ≡ field_text (codes "net ") n ++ (field_text (codes " line ") l ++ (name_text name ++ codes "\n"))
header_parts n l name = from_right (field_text (codes "net ") n) (field_text (codes " line ") l) (name_text name) (codes "\n")

-- a name, or nothing, begins with a blank or ends the line
name_begins : (name : Option (List ℕ)) → BeginsWith 32 (name_text name)
name_begins None = tt
name_begins (Some name) = refl

same_header : (n n' l l' : ℕ) (a b : Option (List ℕ)) → IsShort n → IsShort n' → IsShort l → IsShort l'
    → header_text n l a ≡ header_text n' l' b → (n ≡ n') × (l ≡ l') × (a ≡ b)
same_header n n' l l' a b sn sn' sl sl' e =
    let number = same_field 32 (codes "net ") n n' _ _ (omega arith) sn sn' refl refl (sym (header_parts n l a) ∙ e ∙ header_parts n' l' b) in
    let rest : field_text (codes " line ") l ++ name_text a ≡ field_text (codes " line ") l' ++ name_text b =
    append_cancel_right (field_text (codes " line ") l ++ name_text a) (field_text (codes " line ") l' ++ name_text b) (codes "\n")
    (append_assoc (field_text (codes " line ") l) (name_text a) (codes "\n") ∙ number.1
    ∙ sym (append_assoc (field_text (codes " line ") l') (name_text b) (codes "\n"))) in
    let line = same_field 32 (codes " line ") l l' (name_text a) (name_text b) (omega arith) sl sl' (name_begins a) (name_begins b) rest in
    (number.0, line.0, same_name a b line.1)

-- What follows the header.

-- a line after the sizes
after_size : (y z : Size) (a b s t : List ℕ) → IsShortSize y → IsShortSize z → (size_text y ++ a) ++ s ≡ (size_text z ++ b) ++ t
    → (y ≡ z) × (a ++ s ≡ b ++ t)
after_size y z a b s t h k e =
    let l = same_lines (size_text y) (size_text z) (a ++ s) (b ++ t) (size_line y) (size_line z)
    (sym (append_assoc (size_text y) a s) ∙ e ∙ append_assoc (size_text z) b t) in
    (same_size y z h k l.0, l.1)

-- a text that begins with u, m or g begins with no other of them, and after the sizes r is not k
same_body : (b c : OutcomeBody) (s t : List ℕ) → IsBodyPrintedWhole b → IsBodyPrintedWhole c → IsBodyOnLines b → IsBodyOnLines c
    → body_text b ++ s ≡ body_text c ++ t → ReportAlike b c × (s ≡ t)
unfolding unsupported_word
same_body (Unsupported a) (Unsupported b) s t whole whole' h k e =
    let r = same_lines (unsupported_text a.now) (unsupported_text b.now) s t (unsupported_line a.now h) (unsupported_line b.now k) e in
    (append_cancel_right a.now b.now (codes "\n") (append_cancel_left (codes "unsupported ") (a.now ++ codes "\n") (b.now ++ codes "\n") r.0), r.1)
same_body (Unsupported a) (Malformed g) s t whole whole' h k e = absurd (let first = ap first_byte e in omega (arith, first))
same_body (Unsupported a) (Refused z ns q) s t whole whole' h k e = absurd (let first = ap first_byte e in omega (arith, first))
same_body (Unsupported a) (Keyed z n) s t whole whole' h k e = absurd (let first = ap first_byte e in omega (arith, first))
same_body (Malformed f) (Unsupported b) s t whole whole' h k e = absurd (let first = ap first_byte e in omega (arith, first))
same_body (Malformed f) (Malformed g) s t whole whole' h k e =
    same_lines (fault_text f) (fault_text g) s t (fault_line f) (fault_line g) e
same_body (Malformed f) (Refused z ns q) s t whole whole' h k e = absurd (let first = ap first_byte e in omega (arith, first))
same_body (Malformed f) (Keyed z n) s t whole whole' h k e = absurd (let first = ap first_byte e in omega (arith, first))
same_body (Refused y ms r) (Unsupported b) s t whole whole' h k e = absurd (let first = ap first_byte e in omega (arith, first))
same_body (Refused y ms r) (Malformed g) s t whole whole' h k e = absurd (let first = ap first_byte e in omega (arith, first))
same_body (Refused y ms r) (Refused z ns q) s t whole whole' h k e =
    let p = after_size y z (refused_text ms r) (refused_text ns q) s t whole whole' e in
    let l = same_lines (refused_text ms r) (refused_text ns q) s t (refused_line ms r h) (refused_line ns q k) p.1 in
    ((p.0, l.0), l.1)
same_body (Refused y ms r) (Keyed z n) s t whole whole' h k e =
    let p = after_size y z (refused_text ms r) (key_text (net_view n).key) s t whole whole'.0 e in
    absurd (let first = ap first_byte p.1 in omega (arith, first))
same_body (Keyed y m) (Unsupported b) s t whole whole' h k e = absurd (let first = ap first_byte e in omega (arith, first))
same_body (Keyed y m) (Malformed g) s t whole whole' h k e = absurd (let first = ap first_byte e in omega (arith, first))
same_body (Keyed y m) (Refused z ns q) s t whole whole' h k e =
    let p = after_size y z (key_text (net_view m).key) (refused_text ns q) s t whole.0 whole' e in
    absurd (let first = ap first_byte p.1 in omega (arith, first))
same_body (Keyed y m) (Keyed z n) s t whole whole' h k e =
    let p = after_size y z (key_text (net_view m).key) (key_text (net_view n).key) s t whole.0 whole'.0 e in
    let l = same_lines (key_text (net_view m).key) (key_text (net_view n).key) s t (key_line (net_view m).key) (key_line (net_view n).key) p.1 in
    ((p.0, key_lines_tell (net_view m).key (net_view n).key whole.1 whole'.1 l.0), l.1)
same_body (Unsupported a) (Faulty x y z) s t whole whole' h k e = absurd k
same_body (Unsupported a) (Checked x) s t whole whole' h k e = absurd k
same_body (Unsupported a) (Located x y z) s t whole whole' h k e = absurd k
same_body (Unsupported a) (Identified x y z v w) s t whole whole' h k e = absurd k
same_body (Unsupported a) (Lines x y) s t whole whole' h k e = absurd k
same_body (Malformed f) (Faulty x y z) s t whole whole' h k e = absurd k
same_body (Malformed f) (Checked x) s t whole whole' h k e = absurd k
same_body (Malformed f) (Located x y z) s t whole whole' h k e = absurd k
same_body (Malformed f) (Identified x y z v w) s t whole whole' h k e = absurd k
same_body (Malformed f) (Lines x y) s t whole whole' h k e = absurd k
same_body (Refused o ms r) (Faulty x y z) s t whole whole' h k e = absurd k
same_body (Refused o ms r) (Checked x) s t whole whole' h k e = absurd k
same_body (Refused o ms r) (Located x y z) s t whole whole' h k e = absurd k
same_body (Refused o ms r) (Identified x y z v w) s t whole whole' h k e = absurd k
same_body (Refused o ms r) (Lines x y) s t whole whole' h k e = absurd k
same_body (Keyed o m) (Faulty x y z) s t whole whole' h k e = absurd k
same_body (Keyed o m) (Checked x) s t whole whole' h k e = absurd k
same_body (Keyed o m) (Located x y z) s t whole whole' h k e = absurd k
same_body (Keyed o m) (Identified x y z v w) s t whole whole' h k e = absurd k
same_body (Keyed o m) (Lines x y) s t whole whole' h k e = absurd k
same_body (Faulty x y z) c s t whole whole' h k e = absurd h
same_body (Checked x) c s t whole whole' h k e = absurd h
same_body (Located x y z) c s t whole whole' h k e = absurd h
same_body (Identified x y z v w) c s t whole whole' h k e = absurd h
same_body (Lines x y) c s t whole whole' h k e = absurd h

-- An outcome, and a report.

same_outcome : (o p : Outcome) (s t : List ℕ) → IsLegible o → IsLegible p → outcome_text o ++ s ≡ outcome_text p ++ t → AreReportedAlike o p × (s ≡ t)
same_outcome o p s t h k e =
    let a = header_text o.number o.line (option_copied o.name) in let b = header_text p.number p.line (option_copied p.name) in
    let both = sym (append_assoc a (body_text o.body) s) ∙ e ∙ append_assoc b (body_text p.body) t in
    let l = same_lines a b (body_text o.body ++ s) (body_text p.body ++ t) (header_line o.number o.line (option_copied o.name) h.name)
    (header_line p.number p.line (option_copied p.name) k.name) both in
    let n = same_header o.number p.number o.line p.line (option_copied o.name) (option_copied p.name) h.whole.number k.whole.number
    h.whole.line k.whole.line l.0 in
    let r = same_body o.body p.body s t h.whole.body k.whole.body h.body k.body l.1 in
    (record { number = n.0; line = n.1; name = n.2; body = r.0 }, r.1)

pub reports_tell : ReportsTell
reports_tell [] [] h k e = tt
reports_tell [] (p ∷ ps) h k e = absurd (let first = ap first_byte e in omega (arith, first))
reports_tell (o ∷ os) [] h k e = absurd (let first = ap first_byte e in omega (arith, first))
reports_tell (o ∷ os) (p ∷ ps) h k e =
    let r = same_outcome o p (report_text os) (report_text ps) h.0 k.0 e in (r.0, reports_tell os ps h.1 k.1 r.1)
