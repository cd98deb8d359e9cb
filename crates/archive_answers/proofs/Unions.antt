-- What becomes of a union, and that it is one.
use Rattle.std.proofs.Common.{◌≡◌, ℕ, List, Option, None, Some, sym, ap, subst, ◌∙◌, arith, ◌≤◌, length, Result, Ok, Err, false, ◌⊎◌, inl, inr, Bool}
use Rattle.std.proofs.{Common.true, Common.refl, lemmas.List.Elements.All-map}
use Rattle.std.specs.{Prelude.IfErr, Prelude.IfOk, Prelude.Vec, declared.alloc.Global.Global, List.All, List.list_all}
use Rattle.net_archive.specs.Archives.{ArchiveView, IsArchive, IsEntry, archive_text}
use Rattle.net_archive.specs.{Faults.IsFaultOf, declared.faults.AddFault.AddFault}
use Rattle.net_archive.proofs.CallerLemmas.{no_fault_but_memory, one_archive, one_fault}
use Rattle.archive_union.specs.Unions.{IsNotUnited, IsUnion}
use Rattle.archive_union.proofs.CallerLemmas.{has_all, not_both, same_item, same_union}
use Rattle.keyline_import.specs.Items.{items_of, most_items, ItemView}
use Rattle.archive_text.specs.{Entries.EntryView, Entries.entry_view, Entries.entry_views, declared.entry.Entry.Entry}
use Rattle.net_report.specs.declared.status.Status.TheVariants.{Done, SomeRefused, AddRefused, BadArchive}
use Rattle.net_report.specs.{Reports.report_text, declared.outcome.Outcome.Outcome, declared.status.Status.Status}
use Rattle.archive_answers.specs.ArchiveTexts.{archive_fault_text, add_fault_text}
use Rattle.archive_answers.specs.ArchiveBytes.{IsArchiveIn, IsBadArchive, IsArchiveOrText}
use Rattle.archive_answers.specs.Unions.{AreEntriesOfItems, IsNotUnitedAs, IsUnionOfArchives, IsUnionOfItems, IsUnitedAs, IsUnitedOrRefused}
use Rattle.archive_answers.specs.Unions.{AreItemsUnited, HasManyItems, IsUnionAs, IsUnionDue, begins_archive}
use Rattle.net_report.specs.Accepting.{is_accepted}
use Rattle.archive_answers.specs.Outcomes.{AreItemOutcomesFrom}
use Rattle.archive_answers.proofs.ItemEntries.{entries_of_items, few_entries, few_read, named_nets}
use Rattle.archive_answers.{specs.Reports.IsItemReport, proofs.ItemOutcomes.one_item_report}
use Rattle.archive_answers.proofs.ItemEntries.{entries_or_report, one_list_of_entries}

-- the archive of some bytes is one
pub one_archive_in : (bytes : Option (List ℕ)) (a b : ArchiveView) → IsArchiveIn bytes a → IsArchiveIn bytes b → a ≡ b
one_archive_in bytes a b l p = search (arith, one_archive)

-- bytes of an archive have no fault that is reported
pub not_bad : (bytes : Option (List ℕ)) (a : ArchiveView) (text : List ℕ) → IsArchiveIn bytes a → ¬ IsBadArchive bytes text
not_bad None a text h k = k
not_bad (Some bytes) a text h k = k.1 (no_fault_but_memory a k.0 h.0 (subst (λ l. IsFaultOf l k.0) h.1 k.2))

-- and the fault that is reported is one
pub one_bad : (bytes : Option (List ℕ)) (x y : List ℕ) → IsBadArchive bytes x → IsBadArchive bytes y → x ≡ y
one_bad None x y h k = absurd h
one_bad (Some bytes) x y h k = h.3 ∙ ap archive_fault_text (one_fault bytes h.0 k.0 h.2 k.2 h.1 k.1) ∙ sym k.3

-- a union has all that it is made of
pub united_as : (a whole : ArchiveView) (items : List Entry) (text : List ℕ) → IsArchive a → All (λ (e : Entry). IsEntry (entry_view e)) items
    → IsUnion a (entry_views items) whole → text ≡ archive_text whole
    → IsUnitedAs a (entry_views items) text
united_as a whole items text h each u t = record {
  whole = whole;
  union = u;
  all =
      has_all a whole (entry_views items) h (All-map IsEntry entry_view items each) u;
  text_is = t;
}

-- the first entry that cannot be added is reported
pub not_united_as : (a : ArchiveView) (items : List EntryView) (number : ℕ) (fault : AddFault) (text : List ℕ) → IsNotUnited a items number fault
    → text ≡ add_fault_text number fault → IsNotUnitedAs a items text
not_united_as a items number fault text n t = record { number = number; fault = fault; not_united = n; text_is = t }

-- what is read of the bytes of a file is read of the file
pub archive_of_bytes : {E : Type 0} (file : List ℕ) (bytes : Vec ℕ Global) (r : Result (Result ArchiveView (Vec ℕ Global)) E) → bytes.items ≡ file
    → IfOk r (IsArchiveOrText (Some bytes))
    → IfOk r (λ read. IfOk read (IsArchiveIn (Some file)))
archive_of_bytes file bytes r k p = search arith

pub fault_of_bytes : {E : Type 0} (file : List ℕ) (bytes : Vec ℕ Global) (r : Result (Result ArchiveView (Vec ℕ Global)) E) → bytes.items ≡ file
    → IfOk r (IsArchiveOrText (Some bytes))
    → IfOk r (λ read. IfErr read (λ text. IsBadArchive (Some file) text.items))
fault_of_bytes file bytes (Ok (Err text)) same h = subst (λ (l : List ℕ). IsBadArchive (Some l) text.items) same h
fault_of_bytes file bytes r same h = tt

-- the union of two archives that are read
pub of_archives : (file : List ℕ) (archive : Option (List ℕ)) (b a : ArchiveView) (s : Status) (text : List ℕ) → IsArchiveIn (Some file) b
    → IsArchiveIn archive a → IsUnitedOrRefused a b.entries s text → IsUnionOfArchives file archive s text
of_archives file archive b a Done text i j h = (b, a, i, j, h)
of_archives file archive b a AddRefused text i j h = (b, a, i, j, h)
of_archives file archive b a s text i j h = absurd h

-- the union of an archive with the entries of items
pub of_items : (file : List ℕ) (archive : Option (List ℕ)) (a : ArchiveView) (es : List EntryView) (s : Status) (text : List ℕ)
    → length (items_of file) ≤ most_items → IsArchiveIn archive a → AreEntriesOfItems (items_of file) es
    → IsUnitedOrRefused a es s text → IsUnionOfItems file archive s text
of_items file archive a es Done text few i k h = (few, a, i, (es, k, h))
of_items file archive a es AddRefused text few i k h = (few, a, i, (es, k, h))
of_items file archive a es s text few i k h = absurd h

-- the report on items of which one is refused
pub items_refused : (file : List ℕ) (archive : Option (List ℕ)) (a : ArchiveView) (os : List Outcome) (text : List ℕ) → length (items_of file) ≤ most_items
    → IsArchiveIn archive a → AreItemOutcomesFrom 1 (items_of file) os
    → list_all is_accepted os ≡ false → text ≡ report_text os → IsUnionOfItems file archive SomeRefused text
items_refused file archive a os text few i h all t = (few, a, i, record { outcomes = os; are_outcomes = h; all = sym all; report = t })

-- what is asked of the items of a text on their way to a union
pub ruleset items_united = (few_read, named_nets, few_entries, entries_of_items, items_refused, of_items)

-- one status and one text
abbrev AreOne : Status → Status → List ℕ → List ℕ → Type 0
AreOne s t x y = (s ≡ t) × (x ≡ y)

-- the union with entries
one_united : (a : ArchiveView) (items : List EntryView) (s t : Status) (x y : List ℕ) → IsUnitedOrRefused a items s x → IsUnitedOrRefused a items t y
    → AreOne s t x y
one_united a items Done Done x y h k = (refl, h.text_is ∙ ap archive_text (same_union a h.whole k.whole items h.union k.union) ∙ sym k.text_is)
one_united a items Done AddRefused x y h k = absurd (not_both a h.whole items k.number k.fault h.union k.not_united)
one_united a items AddRefused Done x y h k = absurd (not_both a k.whole items h.number h.fault k.union h.not_united)
one_united a items AddRefused AddRefused x y h k =
    let r = same_item a items h.number k.number h.fault k.fault h.not_united k.not_united in
    (refl, h.text_is ∙ (λ i. add_fault_text (r.0 i) (r.1 i)) ∙ sym k.text_is)
one_united a items Done t x y h k = absurd k
one_united a items AddRefused t x y h k = absurd k
one_united a items s t x y h k = absurd h

-- of one archive and of the entries of one list
united_alike : (a b : ArchiveView) (es fs : List EntryView) (s t : Status) (x y : List ℕ) → a ≡ b → es ≡ fs → IsUnitedOrRefused a es s x
    → IsUnitedOrRefused b fs t y → AreOne s t x y
united_alike a b es fs s t x y d e h k = search (arith, one_united)

-- the first of two archives that has a fault
abbrev IsFirstBad : List ℕ → Option (List ℕ) → List ℕ → Type 0
IsFirstBad file archive text = IsBadArchive (Some file) text ⊎ ((b : ArchiveView) × IsArchiveIn (Some file) b × IsBadArchive archive text)

one_first_bad : (file : List ℕ) (archive : Option (List ℕ)) (x y : List ℕ) → IsFirstBad file archive x → IsFirstBad file archive y → x ≡ y
one_first_bad file archive x y (inl h) (inl k) = one_bad (Some file) x y h k
one_first_bad file archive x y (inl h) (inr k) = absurd (not_bad (Some file) k.0 x k.1 h)
one_first_bad file archive x y (inr h) (inl k) = absurd (not_bad (Some file) h.0 y h.1 k)
one_first_bad file archive x y (inr h) (inr k) = one_bad archive x y h.2 k.2

-- two archives of which one is bad, or both are read
data WayOfTwo (file : List ℕ) (archive : Option (List ℕ)) (s : Status) (x : List ℕ) : Type 0 where
  OneBad : s ≡ BadArchive → IsFirstBad file archive x → WayOfTwo file archive s x
  BothRead : (b a : ArchiveView) → IsArchiveIn (Some file) b → IsArchiveIn archive a → IsUnitedOrRefused a b.entries s x → WayOfTwo file archive s x

way_of_two : (file : List ℕ) (archive : Option (List ℕ)) (s : Status) (x : List ℕ) → IsUnionOfArchives file archive s x → WayOfTwo file archive s x
way_of_two file archive BadArchive x h = OneBad refl h
way_of_two file archive Done x h = BothRead h.0 h.1 h.2 h.3 h.4
way_of_two file archive AddRefused x h = BothRead h.0 h.1 h.2 h.3 h.4
way_of_two file archive s x h = absurd h.4

bad_and_read : (file : List ℕ) (archive : Option (List ℕ)) (x : List ℕ) (b a : ArchiveView) → IsFirstBad file archive x → IsArchiveIn (Some file) b
    → IsArchiveIn archive a → ⊥
bad_and_read file archive x b a (inl h) read given = not_bad (Some file) b x read h
bad_and_read file archive x b a (inr h) read given = not_bad archive a x given h.2

one_of_two : (file : List ℕ) (archive : Option (List ℕ)) (s t : Status) (x y : List ℕ) → WayOfTwo file archive s x → WayOfTwo file archive t y → AreOne s t x y
one_of_two file archive s t x y (OneBad e h) (OneBad f k) = (e ∙ sym f, one_first_bad file archive x y h k)
one_of_two file archive s t x y (OneBad e h) (BothRead b a i j k) = absurd (bad_and_read file archive x b a h i j)
one_of_two file archive s t x y (BothRead b a i j h) (OneBad e k) = absurd (bad_and_read file archive y b a k i j)
one_of_two file archive s t x y (BothRead b a i j h) (BothRead d c m n k) =
    united_alike a c b.entries d.entries s t x y (one_archive_in archive a c j n) (ap (λ (v : ArchiveView). v.entries) (one_archive_in (Some file) b d i m)) h k

-- a report on items, or a union with their entries
data WayOfItems (a : ArchiveView) (items : List ItemView) (s : Status) (x : List ℕ) : Type 0 where
  Told : s ≡ SomeRefused → IsItemReport items false x → WayOfItems a items s x
  United : (es : List EntryView) → AreEntriesOfItems items es → IsUnitedOrRefused a es s x → WayOfItems a items s x

way_of_items : (a : ArchiveView) (items : List ItemView) (s : Status) (x : List ℕ) → AreItemsUnited a items s x → WayOfItems a items s x
way_of_items a items SomeRefused x h = Told refl h
way_of_items a items Done x h = United h.0 h.1 h.2
way_of_items a items AddRefused x h = United h.0 h.1 h.2
way_of_items a items s x h = absurd h.2

one_of_items : (a b : ArchiveView) (items : List ItemView) (s t : Status) (x y : List ℕ) → a ≡ b → WayOfItems a items s x → WayOfItems b items t y
    → AreOne s t x y
one_of_items a b items s t x y d (Told e h) (Told f k) = (e ∙ sym f, (one_item_report items false false x y h k).1)
one_of_items a b items s t x y d (Told e h) (United es i k) = absurd (entries_or_report items es x i h)
one_of_items a b items s t x y d (United es i h) (Told e k) = absurd (entries_or_report items es y i k)
one_of_items a b items s t x y d (United es i h) (United fs j k) = united_alike a b es fs s t x y d (one_list_of_entries items es fs i j) h k

-- an archive that is bad, or read
data WayOfText (file : List ℕ) (archive : Option (List ℕ)) (s : Status) (x : List ℕ) : Type 0 where
  IsBad : s ≡ BadArchive → IsBadArchive archive x → WayOfText file archive s x
  IsRead : (a : ArchiveView) → IsArchiveIn archive a → WayOfItems a (items_of file) s x → WayOfText file archive s x

way_of_text : (file : List ℕ) (archive : Option (List ℕ)) (s : Status) (x : List ℕ) → IsUnionOfItems file archive s x → WayOfText file archive s x
way_of_text file archive BadArchive x h = IsBad refl h.1
way_of_text file archive s x h = IsRead h.1 h.2 (way_of_items h.1 (items_of file) s x h.3)

one_of_text : (file : List ℕ) (archive : Option (List ℕ)) (s t : Status) (x y : List ℕ) → WayOfText file archive s x → WayOfText file archive t y
    → AreOne s t x y
one_of_text file archive s t x y (IsBad e h) (IsBad f k) = (e ∙ sym f, one_bad archive x y h k)
one_of_text file archive s t x y (IsBad e h) (IsRead a i k) = absurd (not_bad archive a x i h)
one_of_text file archive s t x y (IsRead a i h) (IsBad e k) = absurd (not_bad archive a y i k)
one_of_text file archive s t x y (IsRead a i h) (IsRead b j k) = one_of_items a b (items_of file) s t x y (one_archive_in archive a b i j) h k

one_as : (begins : Bool) (file : List ℕ) (archive : Option (List ℕ)) (s t : Status) (x y : List ℕ) → IsUnionAs begins file archive s x
    → IsUnionAs begins file archive t y → AreOne s t x y
one_as true file archive s t x y h k = one_of_two file archive s t x y (way_of_two file archive s x h) (way_of_two file archive t y k)
one_as false file archive s t x y h k = one_of_text file archive s t x y (way_of_text file archive s x h) (way_of_text file archive t y k)

-- what is due to a union is one
pub one_union_due : (file : List ℕ) (archive : Option (List ℕ)) (s t : Status) (x y : List ℕ) → IsUnionDue file archive s x → IsUnionDue file archive t y
    → AreOne s t x y
one_union_due file archive s t x y h k = one_as (begins_archive file) file archive s t x y h k

-- items are no more than there may be
few_items : (file : List ℕ) (archive : Option (List ℕ)) (s : Status) (x : List ℕ) → IsUnionOfItems file archive s x → length (items_of file) ≤ most_items
few_items file archive s x k = search arith

pub many_items : (file : List ℕ) (archive : Option (List ℕ)) (s : Status) (x : List ℕ) → HasManyItems file → ¬ IsUnionDue file archive s x
many_items file archive s x many h = search (arith, few_items)
