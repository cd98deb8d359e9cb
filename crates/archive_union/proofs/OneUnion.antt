-- What one more item makes of a union, and that there is one union, or one item that is refused.
use Rattle.std.proofs.Common.{◌≡◌, ◌≢◌, ℕ, ◌+◌, List, [], ◌∷◌, ◌++◌, length, refl, sym, ap, subst, ◌∙◌, arith, ◌⊎◌, inl, inr, Bool, cond, get_or, drop}
use Rattle.std.proofs.lemmas.List.{length-map, map-append, append_assoc, append-nil}
use Rattle.std.proofs.lemmas.List.Sorted.{IsPermutation-sym}
use Rattle.archive_text.specs.Entries.{EntryView, entry_view, entry_views}
use Rattle.archive_text.{specs.declared.entry.Entry.Entry, specs.Regrouped.regrouped, proofs.CallerLemmas.is_regrouped}
use Rattle.net_archive.specs.declared.faults.AddFault.TheVariants.{NameTaken, BadName, Full, NoMemory}
use Rattle.net_archive.specs.Archives.{ArchiveView, archive_with, IsArchive}
use Rattle.net_archive.proofs.CallerLemmas.{entry_no_fault, one_entry_fault, permuted_archive}
use Rattle.net_archive.specs.{declared.faults.AddFault.AddFault, Deciding.is_there}
use Rattle.archive_union.specs.Unions.{IsNotUnited, IsRefused, united, with_item, IsUnion}
use Rattle.archive_union.specs.Faults.{IsUniteFault, fault_of_add}

united_more : (entries items : List EntryView) (item : EntryView) → united entries (items ++ item ∷ []) ≡ with_item (united entries items) item
united_more entries [] item = refl
united_more entries (x ∷ items) item = united_more (with_item entries x) items item

-- the entries after one more item in memory
views_united : (a : ArchiveView) (items : List Entry) (item : Entry) → united a.entries (entry_views (items ++ item ∷ [])) ≡ with_item
    (united a.entries (entry_views items)) (entry_view item)
views_united a items item = ap (united a.entries) (map-append entry_view items (item ∷ [])) ∙ united_more a.entries (entry_views items) (entry_view item)

module _ (a now : ArchiveView) (items : List Entry) (item : Entry) (is : now ≡ archive_with a (united a.entries (entry_views items))) where
  -- the archive goes on
  pub item_on : (next : ArchiveView) → next ≡ archive_with now (with_item now.entries (entry_view item))
      → next ≡ archive_with a (united a.entries (entry_views (items ++ item ∷ [])))
  item_on next goes = search (arith, views_united)

  -- the item is refused
  not_united : (all later : List Entry) (number : ℕ) (fault : AddFault) → all ≡ items ++ item ∷ later → number ≡ length items + 1
      → IsRefused now (entry_view item) fault → fault ≢ NoMemory
      → IsNotUnited a (entry_views all) number fault
  not_united all later number fault whole counted refused known = record {
    before = entry_views items;
    item = entry_view item;
    after = entry_views later;
    split = ap entry_views whole ∙ map-append entry_view items (item ∷ later);
    number_is = let n = length-map items entry_view in omega (arith, counted, n);
    refused = subst (λ (x : ArchiveView). IsRefused x (entry_view item) fault) is refused;
    known = known;
  }

  -- what is reported of it
  pub fault_is : (all later : List Entry) (number : ℕ) (fault : AddFault) → all ≡ items ++ item ∷ later → number ≡ length items + 1
      → IsRefused now (entry_view item) fault
      → IsUniteFault a (entry_views all) (fault_of_add number fault)
  fault_is all later number NameTaken whole counted refused = not_united all later number NameTaken whole counted refused (λ e. absurd cc)
  fault_is all later number BadName whole counted refused = not_united all later number BadName whole counted refused (λ e. absurd cc)
  fault_is all later number Full whole counted refused = not_united all later number Full whole counted refused (λ e. absurd cc)
  fault_is all later number NoMemory whole counted refused = tt

-- There is one union, or one item that is refused.

-- items only put entries behind those that are there
record GoesOn (entries all : List EntryView) : Type 0 where
  more : List EntryView
  whole : all ≡ entries ++ more

one_goes_on : (entries : List EntryView) (item : EntryView) (t : Bool) → GoesOn entries (cond t entries (entries ++ item ∷ []))
one_goes_on entries item t = search (arith, append-nil)

goes_on : (entries items : List EntryView) → GoesOn entries (united entries items)
goes_on entries [] = record { more = []; whole = sym (append-nil entries) }
goes_on entries (item ∷ items) =
    let first = one_goes_on entries item (is_there entries item.name item.key) in
    let rest = goes_on (with_item entries item) items in
    record {
      more = first.more ++ rest.more;
      whole = rest.whole ∙ ap (λ (l : List EntryView). l ++ rest.more) first.whole ∙ append_assoc entries first.more rest.more;
    }

united_sum : (entries xs ys : List EntryView) → united entries (xs ++ ys) ≡ united (united entries xs) ys
united_sum entries [] ys = refl
united_sum entries (x ∷ xs) ys = united_sum (with_item entries x) xs ys

-- an item that is refused is in no archive that goes on with it
stays_out : (a : ArchiveView) (entries items : List EntryView) (item : EntryView) (fault : AddFault) → IsRefused (archive_with a entries) item fault
    → fault ≢ NoMemory
    → IsArchive (archive_with a (united entries (item ∷ items))) → ⊥
stays_out a entries items item fault refused known is =
    let rest = goes_on (with_item entries item) items in
    let new : with_item entries item ≡ entries ++ item ∷ [] = ap (λ t. cond t entries (entries ++ item ∷ [])) refused.new in
    let whole : united entries (item ∷ items) ≡ entries ++ item ∷ rest.more = rest.whole ∙ ap (λ (l : List EntryView). l ++ rest.more) new
    ∙ append_assoc entries (item ∷ []) rest.more in
    known (entry_no_fault (archive_with a entries) (archive_with a (united entries (item ∷ items))) item rest.more
    (ap (archive_with a) whole) is fault refused.cause)

-- one item stands before another in a list, or they are one
record Before (xs : List EntryView) (x : EntryView) (ys : List EntryView) : Type 0 where
  between : List EntryView
  is : ys ≡ xs ++ x ∷ between

record Same (xs : List EntryView) (x : EntryView) (ys : List EntryView) (y : EntryView) : Type 0 where
  fronts : xs ≡ ys
  items : x ≡ y

order : (xs : List EntryView) (x : EntryView) (after : List EntryView) (ys : List EntryView) (y : EntryView) (later : List EntryView)
    → xs ++ x ∷ after ≡ ys ++ y ∷ later
    → Same xs x ys y ⊎ (Before xs x ys ⊎ Before ys y xs)
order [] x after [] y later e = inl (record { fronts = refl; items = ap (λ (l : List EntryView). get_or l 0 x) e })
order [] x after (z ∷ ys) y later e =
    inr (inl (record { between = ys; is = ap (λ (w : EntryView). w ∷ ys) (sym (ap (λ (l : List EntryView). get_or l 0 x) e)) }))
order (z ∷ xs) x after [] y later e = inr (inr (record { between = xs; is = ap (λ (w : EntryView). w ∷ xs) (ap (λ (l : List EntryView). get_or l 0 z) e) }))
order (w ∷ xs) x after (z ∷ ys) y later e =
    let first : w ≡ z = ap (λ (l : List EntryView). get_or l 0 w) e in
    elim (order xs x after ys y later (ap (drop 1) e)) [
      | inl s ↦ inl (record { fronts = ap (λ (v : EntryView). v ∷ xs) first ∙ ap (λ (l : List EntryView). z ∷ l) s.fronts; items = s.items })
      | inr (inl b) ↦ inr (inl (record {
        between = b.between;
        is = ap (λ (l : List EntryView). z ∷ l) b.is
            ∙ ap (λ (v : EntryView). v ∷ (xs ++ x ∷ b.between)) (sym first);
      }))
      | inr (inr b) ↦ inr (inr (record {
        between = b.between;
        is = ap (λ (l : List EntryView). w ∷ l) b.is
            ∙ ap (λ (v : EntryView). v ∷ (ys ++ y ∷ b.between)) first;
      }))
    ]

-- no item is refused that stands before another one that is
not_before : (a : ArchiveView) (items : List EntryView) (m n : ℕ) (f g : AddFault) (h : IsNotUnited a items m f) (k : IsNotUnited a items n g)
    → Before h.before h.item k.before → ⊥
not_before a items m n f g h k b =
    let whole : united a.entries k.before ≡ united (united a.entries h.before) (h.item ∷ b.between) = ap (united a.entries) b.is
    ∙ united_sum a.entries h.before (h.item ∷ b.between) in
    stays_out a (united a.entries h.before) b.between h.item f h.refused h.known
    (subst (λ (es : List EntryView). IsArchive (archive_with a es)) whole k.refused.is_archive)

pub same_item : (a : ArchiveView) (items : List EntryView) (m n : ℕ) (f g : AddFault) → IsNotUnited a items m f → IsNotUnited a items n g → (m ≡ n) × (f ≡ g)
same_item a items m n f g h k = elim (order h.before h.item h.after k.before k.item k.after (sym h.split ∙ k.split)) [
  | inl s ↦
      let moved = subst (λ (es : List EntryView). IsRefused (archive_with a (united a.entries es)) k.item g) (sym s.fronts) k.refused in
      let there = subst (λ (e : EntryView). IsRefused (archive_with a (united a.entries h.before)) e g) (sym s.items) moved in (
        h.number_is ∙ ap (λ (es : List EntryView). length es + 1) s.fronts ∙ sym k.number_is,
        one_entry_fault (archive_with a (united a.entries h.before)) h.item f g h.refused.cause there.cause h.known k.known,
      )
  | inr (inl b) ↦ absurd (not_before a items m n f g h k b)
  | inr (inr b) ↦ absurd (not_before a items n m g f k h b)
]

pub same_union : (a b c : ArchiveView) (items : List EntryView) → IsUnion a items b → IsUnion a items c → b ≡ c
same_union a b c items h k = h.is ∙ sym k.is

pub not_both : (a b : ArchiveView) (items : List EntryView) (n : ℕ) (f : AddFault) → IsUnion a items b → IsNotUnited a items n f → ⊥
not_both a b items n f u h =
    let all = united a.entries items in
    let moved = IsPermutation-sym all (regrouped all) (is_regrouped all).same_entries in
    let is = permuted_archive a.version (regrouped all) all moved (subst IsArchive u.is u.is_archive) in
    let whole : all ≡ united (united a.entries h.before) (h.item ∷ h.after) = ap (united a.entries) h.split
    ∙ united_sum a.entries h.before (h.item ∷ h.after) in
    stays_out a (united a.entries h.before) h.after h.item f h.refused h.known (subst (λ (es : List EntryView). IsArchive (archive_with a es)) whole is)
