-- Archives of named nets.
use Rattle.std.specs.Prelude.{◌≡◌, ◌≢◌, ℕ, ◌≤◌, List, [], ◌∷◌, ◌++◌, length, All, AllPairs}
use Rattle.periodic_net.specs.Graph.{IsGraph}
use Rattle.key_theory.specs.Key.{IsKeyOf}
use Rattle.coordination.specs.Sequences.{AreSequencesOf}
use Rattle.least_key.specs.Certain.{IsCertain}
use Rattle.archive_text.specs.Entries.{EntryView}
use Rattle.archive_text.specs.Parts.{IsFormed}
use Rattle.line_text.specs.Lines.{rows_text}
use Rattle.archive_text.specs.Texts.{entry_lines, most_bytes, text_of, whole_part}
use Rattle.archive_text.specs.declared.version.Version.{Version}
use Rattle.archive_text.specs.declared.version.Version.TheVariants.{One, Two}

-- the entries of an archive, at most
abbrev pub most_entries : ℕ
most_entries = 4096

-- a version of the format, and entries
pub record ArchiveView : Type 0 where
  pub version : Version
  pub entries : List EntryView

-- the number of a version
abbrev pub version_number : Version → ℕ
version_number One = 1
version_number Two = 2

-- the text
abbrev pub archive_text : ArchiveView → List ℕ
archive_text a = text_of a.version a.entries

-- no entry
abbrev pub empty_archive : ArchiveView
empty_archive = record { version = Two; entries = [] }

-- one more entry, which stands last
abbrev pub with_entry : ArchiveView → EntryView → ArchiveView
with_entry a e = record { version = a.version; entries = a.entries ++ e ∷ [] }

-- these entries, in the version of the archive
abbrev pub archive_with : ArchiveView → List EntryView → ArchiveView
archive_with a entries = record { version = a.version; entries = entries }

-- the name, the graph and the lists have the form of the format; the graph is certain, this is its key, and these are the sizes of
-- the shells of its classes
pub record IsEntry (e : EntryView) : Type 0 where
  pub formed : IsFormed Two (whole_part Two e)
  pub is_graph : IsGraph e.graph
  pub certain : IsCertain e.graph
  pub key : IsKeyOf e.graph e.key
  pub shells : AreSequencesOf e.graph e.shells

-- the rows of the entries, as they stand in memory
abbrev pub IsBody : ArchiveView → List ℕ → Type 0
IsBody a body = body ≡ rows_text (entry_lines a.version a.entries)

-- entries with different names, no more than there may be, and a text that is not too long
pub record IsArchive (a : ArchiveView) : Type 0 where
  pub each : All IsEntry a.entries
  pub names : AllPairs (λ (e f : EntryView). e.name ≢ f.name) a.entries
  pub few : length a.entries ≤ most_entries
  pub fits : length (archive_text a) ≤ most_bytes

-- an archive, beside the rows of its entries
pub record IsInMemory (a : ArchiveView) (body : List ℕ) : Type 0 where
  pub is_archive : IsArchive a
  pub is_body : IsBody a body
