-- Groups of entries with equal keys.
use Rattle.std.specs.Prelude.{ℕ, ◌+◌, ◌≡◌, ◌≤◌, ◌<◌, ℤ, Bool, false, List, length, map, filter, slice_get, slice_index_or, Option, None, Some, Contains}
use Rattle.std.specs.Prelude.{AllPairs}
use Rattle.std.specs.List.{enumerate_from}
pub use Rattle.coordination.specs.Sequences.{numbers_in}
use Rattle.archive_text.specs.Entries.{EntryView}
use Rattle.archive_text.specs.Lookups.{same_key}

-- the numbers of the entries with this key, if the first entry has number n
abbrev pub numbers_from : ℕ → List ℤ → List EntryView → List ℕ
numbers_from n key entries = map (λ (p : ℕ × EntryView). p.0) (filter (λ (p : ℕ × EntryView). same_key p.1.key key) (enumerate_from n entries))

-- the numbers of the entries with this key, counted from 1
abbrev pub numbers_with : List ℤ → List EntryView → List ℕ
numbers_with key entries = numbers_from 1 key entries

-- a group has the numbers of the entries with some key, two or more
pub record IsGroup (entries : List EntryView) (group : List ℕ) : Type 0 where
  pub key : List ℤ
  pub numbers : group ≡ numbers_with key entries
  pub two : 2 ≤ length group

-- the least number of a group, which is its first
abbrev pub first_of : List ℕ → ℕ
first_of group = slice_index_or group 0 0

-- these are the groups, in the order of their first numbers
pub record AreGroups (entries : List EntryView) (groups : List (List ℕ)) : Type 0 where
  pub each : (group : List ℕ) → Contains groups group → IsGroup entries group
  pub every : (group : List ℕ) → IsGroup entries group → Contains groups group
  pub in_order : AllPairs (λ g h. first_of g < first_of h) groups

-- a group whose first number is n
pub record IsGroupFrom (entries : List EntryView) (n : ℕ) (group : List ℕ) : Type 0 where
  pub is_group : IsGroup entries group
  pub first : first_of group ≡ n

-- whether there is an entry, and it has this key
abbrev pub is_keyed : List ℤ → Option EntryView → Bool
is_keyed key None = false
is_keyed key (Some e) = same_key e.key key

-- the numbers of the entries with this key at these places, which are counted from 0
abbrev pub numbers_at : List EntryView → List ℤ → List ℕ → List ℕ
numbers_at entries key places = map (λ i. i + 1) (filter (λ i. is_keyed key (slice_get entries i)) places)
