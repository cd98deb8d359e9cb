-- What is due to a union: of the bytes of a file and of an archive.
use Rattle.std.specs.Prelude.{◌≡◌, ◌⊎◌, ℕ, ◌≤◌, ◌<◌, Bool, true, false, List, [], ◌∷◌, nat_eq, length, Option, Some, codes}
use Rattle.std.specs.List.{starts_with}
use Rattle.archive_answers.specs.ArchiveTexts.{add_fault_text}
use Rattle.archive_union.specs.Unions.{HasAll, IsNotUnited, IsUnion}
use Rattle.archive_answers.specs.Reports.{IsItemReport}
use Rattle.keyline_import.specs.Items.{ItemView, Net, items_of, most_items}
use Rattle.keyline_import.specs.Keys.{graph_of_key}
use Rattle.keyline_import.specs.Rows.{KeyView}
use Rattle.least_key.specs.KeyedNets.{KeyedNet, IsKeyed}
use Rattle.net_archive.specs.Adding.{IsEntryOf}
use Rattle.net_archive.specs.Archives.{ArchiveView, archive_text}
use Rattle.net_archive.specs.declared.faults.AddFault.{AddFault}
use Rattle.archive_text.specs.Entries.{EntryView}
use Rattle.quotient_graph.specs.Stars.{IsInOrder}
use Rattle.archive_answers.specs.ArchiveBytes.{IsArchiveIn, IsBadArchive}
use Rattle.net_report.specs.declared.status.Status.{Status}
use Rattle.net_report.specs.declared.status.Status.TheVariants as status

-- the bytes begin as those of an archive do
abbrev pub begins_archive : List ℕ → Bool
begins_archive bytes = starts_with nat_eq bytes (codes "net_archive ")

-- e is the entry of an item: its name, the graph of its key line, the key and the coordination sequences
pub record IsEntryOfItem (item : ItemView) (e : EntryView) : Type 0 where
  pub key : KeyView
  pub body : item.body ≡ Net key
  pub name : item.name ≡ Some e.name
  pub net : KeyedNet
  pub read : IsInOrder (graph_of_key key) net.placed.graph
  pub keyed : IsKeyed net
  pub entry : IsEntryOf e.name net e

-- the entries of items, in their order
abbrev pub AreEntriesOfItems : List ItemView → List EntryView → Type 0
AreEntriesOfItems [] [] = Unit {0}
AreEntriesOfItems (item ∷ items) (e ∷ es) = IsEntryOfItem item e × AreEntriesOfItems items es
AreEntriesOfItems items es = ⊥

-- the union of an archive with entries, and its text
pub record IsUnitedAs (a : ArchiveView) (items : List EntryView) (text : List ℕ) : Type 0 where
  pub whole : ArchiveView
  pub union : IsUnion a items whole
  pub all : HasAll a items whole
  pub text_is : text ≡ archive_text whole

-- the first of the entries that is not there and cannot be added, and why
pub record IsNotUnitedAs (a : ArchiveView) (items : List EntryView) (text : List ℕ) : Type 0 where
  pub number : ℕ
  pub fault : AddFault
  pub not_united : IsNotUnited a items number fault
  pub text_is : text ≡ add_fault_text number fault

-- what becomes of a union with entries
abbrev pub IsUnitedOrRefused : ArchiveView → List EntryView → Status → List ℕ → Type 0
IsUnitedOrRefused a items status.Done text = IsUnitedAs a items text
IsUnitedOrRefused a items status.AddRefused text = IsNotUnitedAs a items text
IsUnitedOrRefused a items s text = ⊥

-- the union of the archive in a file with another: the first of the two that has a fault is reported
abbrev pub IsUnionOfArchives : List ℕ → Option (List ℕ) → Status → List ℕ → Type 0
IsUnionOfArchives file archive status.BadArchive text =
    IsBadArchive (Some file) text ⊎ ((b : ArchiveView) × IsArchiveIn (Some file) b × IsBadArchive archive text)
IsUnionOfArchives file archive s text =
    (b : ArchiveView) × (a : ArchiveView) × IsArchiveIn (Some file) b × IsArchiveIn archive a × IsUnitedOrRefused a b.entries s text

-- what becomes of a union with items: the report on them if one has no key
abbrev pub AreItemsUnited : ArchiveView → List ItemView → Status → List ℕ → Type 0
AreItemsUnited a items status.SomeRefused text = IsItemReport items false text
AreItemsUnited a items s text = (es : List EntryView) × AreEntriesOfItems items es × IsUnitedOrRefused a es s text

-- the union of an archive with the items of a file
abbrev pub IsUnionOfItems : List ℕ → Option (List ℕ) → Status → List ℕ → Type 0
IsUnionOfItems file archive status.BadArchive text = (length (items_of file) ≤ most_items) × IsBadArchive archive text
IsUnionOfItems file archive s text =
    (length (items_of file) ≤ most_items) × (a : ArchiveView) × IsArchiveIn archive a × AreItemsUnited a (items_of file) s text

-- the file is an archive, or a text of key lines
abbrev pub IsUnionAs : Bool → List ℕ → Option (List ℕ) → Status → List ℕ → Type 0
IsUnionAs true file archive s text = IsUnionOfArchives file archive s text
IsUnionAs false file archive s text = IsUnionOfItems file archive s text

-- what is due to a union
abbrev pub IsUnionDue : List ℕ → Option (List ℕ) → Status → List ℕ → Type 0
IsUnionDue file archive s text = IsUnionAs (begins_archive file) file archive s text

-- a text of key lines in which too many items begin
abbrev pub HasManyItems : List ℕ → Type 0
HasManyItems file = (begins_archive file ≡ false) × (most_items < length (items_of file))
