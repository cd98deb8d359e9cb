-- The text of maps that is printed is verified when it is read again; what is due to `verify` is one.
use Rattle.std.proofs.Common.{◌≡◌, ℕ, ◌==◌, List, [], ◌∷◌, Option, None, Some, refl, sym, ap, subst, ◌∙◌, arith, All, Bool, true, false, ◌-◌, ◌≤◌}
use Rattle.std.proofs.Common.{length, map}
use Rattle.std.proofs.lemmas.List.Elements.{All-head, All-tail, All-cons, All-nil}
use Rattle.periodic_net.specs.Graph.{Graph}
use Rattle.map_check.specs.{declared.verdict.Verdict.Verdict, Conditions.most_images}
use Rattle.net_certificate.specs.Items.{IsFormedItem, ItemView, Maps, Without, With, IsTold}
use Rattle.net_certificate.specs.{Reading.MayStand, Reading.IsTextOf, Checks.IsChecked, Checks.Tells}
use Rattle.net_certificate.specs.Results.{AreVerdicts, IsVerdictOf, refused_count, result_rows}
use Rattle.net_certificate.specs.declared.{checking.CheckedMaps.CheckedMaps, maps.MapAnswer.MapAnswer}
use Rattle.net_certificate.proofs.CallerLemmas.{texts_tell, one_verdict, no_fault, one_text, found_maps_pass, found_few}
use Rattle.net_report.specs.declared.status.Status.TheVariants.{Done, SomeRefused, BadMap}
use Rattle.net_report.specs.{Statuses.ending_of, declared.status.Status.Status}
use Rattle.line_text.specs.Lines.{rows_text}
use Rattle.cgd_read.specs.{Blocks.most_blocks, Views.BlockView}
use Rattle.graph_rows.specs.Reading.{IsFormedGraph}
use Rattle.least_key.{specs.KeyedNets.KeyedNet, proofs.CallerLemmas.key_of_graph}
use Rattle.net_certificate.specs.Answers.{IsMapAnswer, IsPassing, shape_of}
use Rattle.net_certificate.specs.declared.maps.MapAnswer.TheVariants.{Different, Found}
use Rattle.net_certificate.specs.NetItems.{AreItemsOf, AreMapsOf, HasItsBits, images_in, item_by}
use Rattle.key_theory.proofs.CallerLemmas.{has_edge}
use Rattle.map_answers.specs.DueToVerify.{IsBadMap, IsDueToVerify, IsTold as IsToldOf, bad_line_text}
use Rattle.map_answers.specs.{VerifyingLaws.OneVerification, Nets.AreNetsOf, Nets.IsNetOf}
use Rattle.map_answers.specs.Laws.{SameIsVerified, passing, verified_text}

-- the verdict on an item is one
one_of_item : (G : Graph) (item : ItemView) (v w : Option Verdict) → IsFormedItem G item → IsVerdictOf G item v → IsVerdictOf G item w → v ≡ w
one_of_item G (Without why) None None f h k = refl
one_of_item G (Without why) (Some v) w f h k = absurd h
one_of_item G (With H map) None w f h k = absurd h
one_of_item G (With H map) (Some v) (Some w) f h k =
    ap (λ (x : Verdict). Some x) (one_verdict G H map.m map.images map.base v w f.suits.period_from h.told k.told)
one_of_item G item v w f h k = absurd k

-- the verdicts on items are one list
one_list : (G : Graph) (items : List ItemView) (vs ws : List (Option Verdict)) → All (IsFormedItem G) items → AreVerdicts G items vs → AreVerdicts G items ws
    → vs ≡ ws
one_list G [] [] [] f h k = refl
one_list G [] (v ∷ vs) ws f h k = absurd h
one_list G (item ∷ items) [] ws f h k = absurd h
one_list G (item ∷ items) (v ∷ vs) (w ∷ ws) f h k =
    let first = one_of_item G item v w (All-head (IsFormedItem G) item items f) h.0 k.0 in
    let rest = one_list G items vs ws (All-tail (IsFormedItem G) item items f) h.1 k.1 in
    λ i. first i ∷ rest i
one_list G items vs ws f h k = absurd k

-- what is reported of maps is one
one_telling : (maps : Option Maps) (a b : CheckedMaps) → MayStand maps → Tells maps a → Tells maps b → (a.text.items ≡ b.text.items) × (a.refused ≡ b.refused)
one_telling maps a b l p q = search (arith, one_list)

-- what is reported of a text is one
one_checked : (bytes : List ℕ) (a b : CheckedMaps) → IsChecked bytes a → IsChecked bytes b → (a.text.items ≡ b.text.items) × (a.refused ≡ b.refused)
one_checked bytes a b h k =
    let same = texts_tell.one_text bytes k.maps h.maps k.is h.is in
    one_telling h.maps a b h.is.formed h.tells (subst (λ (maps : Option Maps). Tells maps b) same k.tells)

-- the maps are reported, or the first bad line is
data WayOf (bytes : List ℕ) (s : Status) (x : List ℕ) : Type 0 where
  Told : IsToldOf bytes s x → WayOf bytes s x
  Bad : s ≡ BadMap → IsBadMap bytes x → WayOf bytes s x

way_of : (bytes : List ℕ) (s : Status) (x : List ℕ) → IsDueToVerify bytes s x → WayOf bytes s x
way_of bytes Done x h = Told h
way_of bytes SomeRefused x h = Told h
way_of bytes BadMap x h = Bad refl h
way_of bytes s x h = absurd h

-- not both
not_bad : (bytes : List ℕ) (s : Status) (x y : List ℕ) → IsToldOf bytes s x → ¬ IsBadMap bytes y
not_bad bytes s x y h k = texts_tell.no_fault bytes h.is.maps k.line h.is.is k.bad

one_way : (bytes : List ℕ) (s t : Status) (x y : List ℕ) → WayOf bytes s x → WayOf bytes t y → (s ≡ t) × (x ≡ y)
one_way bytes s t x y (Told h) (Told k) =
    let one = one_checked bytes h.checked k.checked h.is k.is in
    (h.status_is ∙ ap (λ (n : ℕ). ending_of (n == 0)) one.1 ∙ sym k.status_is, h.text_is ∙ one.0 ∙ sym k.text_is)
one_way bytes s t x y (Told h) (Bad e k) = absurd (not_bad bytes s x y h k)
one_way bytes s t x y (Bad e h) (Told k) = absurd (not_bad bytes t y x k h)
one_way bytes s t x y (Bad e h) (Bad f k) = (e ∙ sym f, h.text_is ∙ ap bad_line_text (texts_tell.one_fault bytes h.line k.line h.bad k.bad) ∙ sym k.text_is)

-- two answers that are due are one
pub one_verification : OneVerification
one_verification bytes s t x y h k = one_way bytes s t x y (way_of bytes s x h) (way_of bytes t y k)

-- what was found is due, by whether no map is refused
told_by : (b : Bool) (bytes : List ℕ) (checked : CheckedMaps) → IsChecked bytes checked → (checked.refused == 0) ≡ b
    → IsDueToVerify bytes (ending_of b) checked.text.items
told_by true bytes checked is e = record { checked = checked; is = is; text_is = refl; status_is = ap ending_of (sym e) }
told_by false bytes checked is e = record { checked = checked; is = is; text_is = refl; status_is = ap ending_of (sym e) }

pub is_due : (bytes : List ℕ) (status : Status) (checked : CheckedMaps) → IsChecked bytes checked → status ≡ ending_of (checked.refused == 0)
    → IsDueToVerify bytes status checked.text.items
is_due bytes status checked is e = subst (λ s. IsDueToVerify bytes s checked.text.items) (sym e) (told_by (checked.refused == 0) bytes checked is refl)

-- the graph of a net of a block may stand in a text
graph_formed : (block : BlockView) (net : KeyedNet) → IsNetOf block net → IsFormedGraph net.placed.graph
graph_formed block net is =
    let G = net.placed.graph in let g = is.keyed.is_graph in
    record {
      is_size = record {
        dim = g.dimension;
        vertices = (g.vertices, is.small.vertices);
        edges =
            (has_edge G net.key g (key_of_graph net is.keyed), is.small.edges);
      };
      each = λ i d l. let h = g.edges i d l in record {
        is_edge = record { from = h.from; to = h.to; shift = h.shift; spelling = h.spelling };
        small =
            is.small.shifts i d l;
      };
      rising = is.read.rising;
    }

-- an item may stand in a text, and its map, if it has one, passes
abbrev IsSound : Graph → ItemView → Type 0
IsSound G (Without why) = IsTold why
IsSound G (With H M) = IsFormedGraph H × IsPassing G H M.m M.images M.base

abbrev AreSound : Graph → List ItemView → Type 0
AreSound G [] = Unit {0}
AreSound G (item ∷ items) = IsSound G item × AreSound G items

-- so it is with the item of a net
sound_by : (first : KeyedNet) (room : ℕ) (block : BlockView) (net : KeyedNet) (answer : MapAnswer) (item : ItemView) → room ≤ most_images → IsNetOf block net
    → IsMapAnswer first net room answer → item ≡ item_by net.placed.graph answer
    → HasItsBits item → IsSound first.placed.graph item
sound_by first room block net Different item few is q e bits = subst (IsSound first.placed.graph) (sym e) tt
sound_by first room block net (Found M) item few is q e bits =
    let G = first.placed.graph in let H = net.placed.graph in let g = shape_of first q.here in
    let h = shape_of net q.there in
    let count = found_few G H g h room M.m M.images M.base q.here.is_graph q.by in
    let pass = found_maps_pass G H g h room M.m M.images M.base q.here.is_graph q.there.is_graph is.small.vertices q.by (omega (arith, count, few)) in
    subst (IsSound G) (sym e) (graph_formed block net is, pass)
sound_by first room block net answer item few is q e bits = subst (IsSound first.placed.graph) (sym e) (subst HasItsBits e bits)

all_sound : (first : KeyedNet) (room : ℕ) (blocks : List BlockView) (nets : List KeyedNet) (items : List ItemView) → room ≤ most_images → AreNetsOf blocks nets
    → AreItemsOf first room nets items → AreSound first.placed.graph items
all_sound first room [] [] [] few are of = tt
all_sound first room [] (net ∷ nets) items few are of = absurd are
all_sound first room (block ∷ blocks) [] items few are of = absurd are
all_sound first room (block ∷ blocks) (net ∷ nets) (item ∷ items) few are of =
    let one = of.0 in (
      sound_by first room block net one.answer item few are.0 one.is_answer one.item_is one.bits,
      all_sound first (room - images_in item) blocks nets items (omega (arith, few)) are.1 of.1,
    )
all_sound first room blocks nets items few are of = absurd of

-- there is an item for each net after the first
as_many_items : (first : KeyedNet) (room : ℕ) (blocks : List BlockView) (nets : List KeyedNet) (items : List ItemView) → AreNetsOf blocks nets
    → AreItemsOf first room nets items → length items ≡ length blocks
as_many_items first room [] [] [] are of = refl
as_many_items first room [] (net ∷ nets) items are of = absurd are
as_many_items first room (block ∷ blocks) [] items are of = absurd are
as_many_items first room (block ∷ blocks) (net ∷ nets) (item ∷ items) are of = let e =
    as_many_items first (room - images_in item) blocks nets items are.1 of.1 in omega (arith, e)
as_many_items first room blocks nets items are of = absurd of

-- what is sound may stand
sound_formed : (G : Graph) (item : ItemView) → IsSound G item → IsFormedItem G item
sound_formed G item h = search arith

all_formed : (G : Graph) (items : List ItemView) → AreSound G items → All (IsFormedItem G) items
all_formed G [] s = All-nil (IsFormedItem G)
all_formed G (item ∷ items) s = All-cons (IsFormedItem G) item items (sound_formed G item s.0) (all_formed G items s.1)

-- and its verdicts are those that pass
sound_passes : (G : Graph) (item : ItemView) (v : Option Verdict) → IsSound G item → IsVerdictOf G item v → v ≡ passing item
sound_passes G (Without why) None s is = refl
sound_passes G (With H M) (Some v) s is = ap Some (s.1.yes v is)
sound_passes G item v s is = absurd is

all_pass : (G : Graph) (items : List ItemView) (vs : List (Option Verdict)) → AreSound G items → AreVerdicts G items vs → vs ≡ map passing items
all_pass G [] [] s are = refl
all_pass G (item ∷ items) (v ∷ vs) s are =
    let first = sound_passes G item v s.0 are.0 in let rest = all_pass G items vs s.1 are.1 in
    λ i. first i ∷ rest i
all_pass G items vs s are = absurd are

none_refused : (items : List ItemView) → refused_count (map passing items) ≡ 0
none_refused [] = refl
none_refused (Without why ∷ items) = let e = none_refused items in omega (arith, e)
none_refused (With H M ∷ items) = let e = none_refused items in omega (arith, e)

-- maps that may stand in a text, and pass
abbrev SoundMaps : Option Maps → Type 0
SoundMaps None = Unit {0}
SoundMaps (Some maps) = AreSound maps.first maps.items

record AreGood (maps : Option Maps) : Type 0 where
  stand : MayStand maps
  sound : SoundMaps maps

maps_good : (blocks : List BlockView) (nets : List KeyedNet) (maps : Option Maps) → length blocks ≤ most_blocks → AreNetsOf blocks nets → AreMapsOf nets maps
    → AreGood maps
maps_good [] [] None few are of = record { stand = tt; sound = tt }
maps_good [] (net ∷ nets) maps few are of = absurd are
maps_good (block ∷ blocks) [] maps few are of = absurd are
maps_good (block ∷ blocks) (first ∷ nets) (Some maps) few are of =
    let sound = subst (λ (G : Graph). AreSound G maps.items) (sym of.first_is)
    (all_sound first most_images blocks nets maps.items (omega arith) are.1 of.are_items) in
    let count = as_many_items first most_images blocks nets maps.items are.1 of.are_items in
    record {
      stand = record {
        first = subst IsFormedGraph (sym of.first_is) (graph_formed block first are.0);
        items = all_formed maps.first maps.items sound;
        few = omega (arith, few, count);
      };
      sound = sound;
    }
maps_good blocks nets maps few are of = absurd of

-- what is reported of them
told_good : (maps : Option Maps) (checked : CheckedMaps) → SoundMaps maps → Tells maps checked
    → (checked.refused ≡ 0) × (checked.text.items ≡ verified_text maps)
told_good None checked s t = (t.1, t.0)
told_good (Some maps) checked s t =
    let vs = all_pass maps.first maps.items t.verdicts s t.are in (
      t.refused_is ∙ ap refused_count vs ∙ none_refused maps.items,
      t.text_is ∙ ap (λ (l : List (Option Verdict)). rows_text (result_rows 2 maps.first.dimension l)) vs,
    )

-- the maps that are printed are verified
pub same_is_verified : SameIsVerified
same_is_verified blocks text same few status told due = by status due
  where
    maps : Option Maps
    maps = same.told.maps

    good : AreGood maps
    good = maps_good blocks same.nets maps few same.are_nets same.told.are_maps

    is : IsTextOf text maps
    is = record { formed = good.stand; is = same.told.text_is }

    at : (s : Status) → IsToldOf text s told → (s ≡ Done) × (told ≡ verified_text maps)
    at s t =
        let one = one_text text t.is.maps maps t.is.is is in
        let g = told_good maps t.checked good.sound (subst (λ (m : Option Maps). Tells m t.checked) one t.is.tells) in
        (t.status_is ∙ ap (λ (n : ℕ). ending_of (n == 0)) g.0, t.text_is ∙ g.1)

    by : (s : Status) → IsDueToVerify text s told → (s ≡ Done) × (told ≡ verified_text maps)
    by Done t = at Done t
    by SomeRefused t = at SomeRefused t
    by BadMap t = absurd (no_fault text maps t.line is t.bad)
    by s t = absurd t
