-- Entries with a key, and entries with a name.
use Rattle.std.specs.Prelude.{ℕ, ◌≡◌, ◌<◌, ◌^◌, ℤ, Bool, List, length, map, filter, slice_get}
use Rattle.std.specs.List.{filter_map}
use Rattle.std.specs.Ordering.{int_eq}
use Rattle.std.specs.Cmp.Lexicographic.{pointwise}
use Rattle.archive_text.specs.Entries.{EntryView}
use Rattle.archive_text.specs.Fingerprints.{key_print, name_print}

-- two keys are the same list of numbers
abbrev pub same_key : List ℤ → List ℤ → Bool
same_key k l = pointwise int_eq k l

-- the names of the entries
abbrev pub names_of : List EntryView → List (List ℕ)
names_of entries = map (λ (e : EntryView). e.name) entries

-- the names of exactly the entries with this key, in their order
abbrev pub names_with : List ℤ → List EntryView → List (List ℕ)
names_with key entries = names_of (filter (λ (e : EntryView). same_key e.key key) entries)

-- the entries at these places, which are counted from 0
abbrev pub entries_at : List EntryView → List ℕ → List EntryView
entries_at entries places = filter_map (slice_get entries) places

-- the fingerprints of the names, and those of the keys, of a list whose places have 32 bits
pub record AreIndexed (entries : List EntryView) (names keys : List ℕ) : Type 0 where
  pub few : length entries < 2 ^ 32
  pub by_name : names ≡ map (λ (e : EntryView). name_print e.name) entries
  pub by_key : keys ≡ map (λ (e : EntryView). key_print e.key) entries
