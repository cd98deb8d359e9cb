-- The union of an archive and of items. An item is seen as the entry that it would be: its name, the graph of its net, the key, and the
-- coordination sequences of its classes.
use Rattle.std.specs.Prelude.{◌≡◌, ◌≢◌, ◌⊎◌, ◌↔◌, ℕ, ◌+◌, ℤ, false, List, [], ◌∷◌, ◌++◌, length, if◌then◌else◌, Contains, AllPairs}
use Rattle.periodic_net.specs.Graph.{Graph, IsGraph}
use Rattle.periodic_net.specs.Maps.{BareIso, Iso}
use Rattle.key_theory.specs.Key.{IsKeyOf}
use Rattle.archive_text.specs.Entries.{EntryView}
use Rattle.archive_text.specs.Lookups.{names_of, names_with}
use Rattle.archive_text.specs.Regrouped.{regrouped, AreTogether}
use Rattle.net_archive.specs.Adding.{IsEntryFault}
use Rattle.net_archive.specs.Archives.{ArchiveView, IsArchive, archive_with}
use Rattle.net_archive.specs.Deciding.{KeysDecideArchive, StandTogetherBy, is_there}
use Rattle.net_archive.specs.declared.faults.AddFault.{AddFault}
use Rattle.net_archive.specs.declared.faults.AddFault.TheVariants as add

-- the entries and one more, if no entry has both its name and its key
abbrev pub with_item : List EntryView → EntryView → List EntryView
with_item entries item = if is_there entries item.name item.key then entries else entries ++ item ∷ []

-- the entries with those of the items, which are taken in order; an item that is there is passed over
abbrev pub united : List EntryView → List EntryView → List EntryView
united entries [] = entries
united entries (item ∷ items) = united (with_item entries item) items

-- the archive a and the items make the archive b, in which entries with equal keys stand together
pub record IsUnion (a : ArchiveView) (items : List EntryView) (b : ArchiveView) : Type 0 where
  pub is : b ≡ archive_with a (regrouped (united a.entries items))
  pub is_archive : IsArchive b

-- no entry has both the name and the key of the item, and it cannot be added to the archive
pub record IsRefused (a : ArchiveView) (item : EntryView) (fault : AddFault) : Type 0 where
  pub is_archive : IsArchive a
  pub new : is_there a.entries item.name item.key ≡ false
  pub cause : IsEntryFault a item fault

-- The items before one are united with the archive, and that one is refused. It has this number, counted from 1.
pub record IsNotUnited (a : ArchiveView) (items : List EntryView) (number : ℕ) (fault : AddFault) : Type 0 where
  pub before : List EntryView
  pub item : EntryView
  pub after : List EntryView
  pub split : items ≡ before ++ item ∷ after
  pub number_is : number ≡ length before + 1
  pub refused : IsRefused (archive_with a (united a.entries before)) item fault
  pub known : fault ≢ add.NoMemory

-- one of the entries of the archive, or an item
abbrev pub IsOneOf : ArchiveView → List EntryView → EntryView → Type 0
IsOneOf a items e = Contains a.entries e ⊎ Contains items e

-- a graph that is the same, in this sense, as that of an entry or item is found in b, by its key, under that entry's or item's name
abbrev pub IsFoundBy : (Graph → Graph → Type 0) → ArchiveView → List EntryView → ArchiveView → Type 0
IsFoundBy Same a items b = (G : Graph) (key : List ℤ) (e : EntryView) → IsGraph G → IsKeyOf G key → IsOneOf a items e → Same G e.graph
    → Contains (names_with key b.entries) e.name

-- What the union b of the archive a and of items is. Its names are exactly those of the archive and of the items, each once, with a graph
-- of its own entry or item. Entries with equal keys stand together, and two keys are equal if and only if the nets are isomorphic. A graph
-- whose net is isomorphic to that of an entry or item is found, by its key, under that entry's or item's name among others. All of this
-- holds by bijections with a period and by any.
pub record HasAll (a : ArchiveView) (items : List EntryView) (b : ArchiveView) : Type 0 where
  pub names : (name : List ℕ) → Contains (names_of b.entries) name ↔ (Contains (names_of a.entries) name ⊎ Contains (names_of items) name)
  pub once : AllPairs (λ (e f : EntryView). e.name ≢ f.name) b.entries
  pub own : (e : EntryView) → Contains b.entries e → IsOneOf a items e
  pub together : AreTogether b.entries
  pub decide : KeysDecideArchive Iso b.entries
  pub bare_decide : KeysDecideArchive BareIso b.entries
  pub iso_together : StandTogetherBy Iso b.entries
  pub bare_together : StandTogetherBy BareIso b.entries
  pub found : IsFoundBy Iso a items b
  pub bare_found : IsFoundBy BareIso a items b
