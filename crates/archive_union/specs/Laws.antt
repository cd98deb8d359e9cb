-- What a union is, and that it is one.
use Rattle.std.specs.Prelude.{◌≡◌, ℕ, List, All}
use Rattle.archive_text.specs.Entries.{EntryView}
use Rattle.net_archive.specs.Archives.{ArchiveView, IsArchive, IsEntry}
use Rattle.net_archive.specs.declared.faults.AddFault.{AddFault}
use Rattle.archive_union.specs.Unions.{IsUnion, IsNotUnited, HasAll}

-- a union has all that it is made of
abbrev pub UnionsHaveAll : Type 0
UnionsHaveAll = (a b : ArchiveView) (items : List EntryView) → IsArchive a → All IsEntry items → IsUnion a items b → HasAll a items b

-- an archive and items have one union, or one item is refused for one reason, and not both
pub record OneUnion : Type 0 where
  pub one_union : (a b c : ArchiveView) (items : List EntryView) → IsUnion a items b → IsUnion a items c → b ≡ c
  pub one_item : (a : ArchiveView) (items : List EntryView) (m n : ℕ) (f g : AddFault) → IsNotUnited a items m f → IsNotUnited a items n g → (m ≡ n) × (f ≡ g)
  pub not_both : (a b : ArchiveView) (items : List EntryView) (n : ℕ) (f : AddFault) → IsUnion a items b → IsNotUnited a items n f → ⊥
