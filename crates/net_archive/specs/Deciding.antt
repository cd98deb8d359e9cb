-- What keys in an archive decide: which nets are isomorphic, by isomorphisms with a period (`Iso`) and by any (`BareIso`).
use Rattle.std.specs.Prelude.{◌≡◌, ◌≢◌, ◌↔◌, ◌⊎◌, ℕ, ◌-◌, ◌≤◌, ℤ, Bool, List, [], ◌∷◌, ◌++◌, Some, slice_get, All, Contains}
use Rattle.std.specs.List.{list_any}
use Rattle.std.specs.Str.{bytes_eq}
use Rattle.periodic_net.specs.Graph.{Graph}
use Rattle.periodic_net.specs.Maps.{BareIso, Iso}
use Rattle.archive_text.specs.Entries.{EntryView}
use Rattle.archive_text.specs.Lookups.{names_with}

-- the names of exactly the entries whose graphs are such, in their order
abbrev pub AreNamesBy : (Graph → Type 0) → List EntryView → List (List ℕ) → Type 0
AreNamesBy Is [] names = names ≡ []
AreNamesBy Is (e ∷ es) [] = ¬ Is e.graph × AreNamesBy Is es []
AreNamesBy Is (e ∷ es) (name ∷ names) = (Is e.graph × (name ≡ e.name) × AreNamesBy Is es names) ⊎ (¬ Is e.graph × AreNamesBy Is es (name ∷ names))

-- the names of exactly the entries to whose nets a periodic bijection carries that of G
abbrev pub AreNamesOf : Graph → List EntryView → List (List ℕ) → Type 0
AreNamesOf G = AreNamesBy (Iso G)

-- the names of exactly the entries whose nets are, as infinite graphs, isomorphic to that of G
abbrev pub AreBareNamesOf : Graph → List EntryView → List (List ℕ) → Type 0
AreBareNamesOf G = AreNamesBy (BareIso G)

-- the keys of two entries are equal if and only if their graphs are the same in this sense
abbrev pub KeysDecideArchive : (Graph → Graph → Type 0) → List EntryView → Type 0
KeysDecideArchive Same entries = (e f : EntryView) → Contains entries e → Contains entries f → (e.key ≡ f.key) ↔ Same e.graph f.graph

-- e is the entry with this number, which is counted from 1
pub record IsEntryAt (entries : List EntryView) (number : ℕ) (e : EntryView) : Type 0 where
  pub low : 1 ≤ number
  pub stands : slice_get entries (number - 1) ≡ Some e

-- some group has both numbers
abbrev pub ShareGroup : List (List ℕ) → ℕ → ℕ → Type 0
ShareGroup groups m n = (group : List ℕ) × Contains groups group × Contains group m × Contains group n

-- two entries stand in one group if and only if their graphs are the same in this sense
abbrev pub AreGroupsBy : (Graph → Graph → Type 0) → List EntryView → List (List ℕ) → Type 0
AreGroupsBy Same entries groups =
    (m n : ℕ) (e f : EntryView) → IsEntryAt entries m e → IsEntryAt entries n f → m ≢ n → ShareGroup groups m n ↔ Same e.graph f.graph

-- entries whose graphs are the same in this sense stand together: between two of them stand only such entries
abbrev pub StandTogetherBy : (Graph → Graph → Type 0) → List EntryView → Type 0
StandTogetherBy Same entries = (before between after : List EntryView) (e f : EntryView) → entries ≡ before ++ e ∷ (between ++ f ∷ after)
    → Same e.graph f.graph
    → All (λ (x : EntryView). Same x.graph e.graph) between

-- an entry with this key has this name
abbrev pub is_there : List EntryView → List ℕ → List ℤ → Bool
is_there entries name key = list_any (bytes_eq name) (names_with key entries)
