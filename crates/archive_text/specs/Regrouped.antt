-- Entries with equal keys, put together.
use Rattle.std.specs.Prelude.{◌≡◌, ℕ, ℤ, Option, None, Some, position, unwrap_or, not, List, [], ◌∷◌, ◌++◌, filter, flat_map, All}
use Rattle.std.specs.List.Sorted.{IsPermutation}
use Rattle.archive_text.specs.Entries.{EntryView}
use Rattle.archive_text.specs.Lookups.{same_key}

-- the keys other than this one
abbrev pub keys_but : List ℤ → List (List ℤ) → List (List ℤ)
keys_but key keys = filter (λ k. not (same_key k key)) keys

-- the different keys of entries, in the order of the first entries that have them
abbrev pub keys_in : List EntryView → List (List ℤ)
keys_in [] = []
keys_in (e ∷ es) = e.key ∷ keys_but e.key (keys_in es)

-- the entries with this key, in their order
abbrev pub with_key : List ℤ → List EntryView → List EntryView
with_key key entries = filter (λ (e : EntryView). same_key e.key key) entries

-- the entries with another key, in their order
abbrev pub without_key : List ℤ → List EntryView → List EntryView
without_key key entries = filter (λ (e : EntryView). not (same_key e.key key)) entries

-- entries with equal keys stand together, in their old order, and the groups in the order of their first entries
abbrev pub regrouped : List EntryView → List EntryView
regrouped entries = flat_map (λ key. with_key key entries) (keys_in entries)

-- between two entries with one key stand only entries with that key
abbrev pub AreTogether : List EntryView → Type 0
AreTogether entries = (before between after : List EntryView) (e f : EntryView) → entries ≡ before ++ e ∷ (between ++ f ∷ after) → e.key ≡ f.key
    → All (λ (x : EntryView). x.key ≡ e.key) between

-- the new list has the entries of the old one; those with one key stand together, in their old order; and the keys come in the order of
-- the first entries that have them
pub record IsRegrouping (old new : List EntryView) : Type 0 where
  pub same_entries : IsPermutation old new
  pub together : AreTogether new
  pub old_order : (key : List ℤ) → with_key key new ≡ with_key key old
  pub first_order : keys_in new ≡ keys_in old

-- how a list is regrouped from the left

-- the last entry, if there is one
abbrev pub last_of : List EntryView → Option EntryView
last_of [] = None
last_of (e ∷ []) = Some e
last_of (e ∷ f ∷ es) = last_of (f ∷ es)

-- the place of the first entry with the key of this one, or else the first place
abbrev pub place_after : Option EntryView → List EntryView → ℕ
place_after None left = 0
place_after (Some e) left = unwrap_or (position (λ (x : EntryView). same_key x.key e.key) left) 0

-- the place of the entry that comes next after those that are grouped
abbrev pub next_place : List EntryView → List EntryView → ℕ
next_place grouped left = place_after (last_of grouped) left

-- how the entries that are left go on after this one
abbrev pub going_on : Option EntryView → List EntryView → List EntryView
going_on None left = regrouped left
going_on (Some e) left = with_key e.key left ++ regrouped (without_key e.key left)
