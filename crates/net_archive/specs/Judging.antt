-- What is judged of an entry at its end.
use Rattle.std.specs.Prelude.{◌≡◌, ◌≢◌, ℕ, ◌+◌, ◌<◌, ℤ, List, length, map, Option, Some, None, slice_get}
use Rattle.periodic_net.specs.Graph.{Graph, IsGraph}
use Rattle.key_theory.specs.Key.{IsKeyOf}
use Rattle.cgd_read.specs.Spelling.{edge_of}
use Rattle.quotient_graph.specs.Stars.{graph_with}
use Rattle.coordination.specs.Sequences.{AreSequencesOf}
use Rattle.least_key.specs.Certain.{IsCertain}
use Rattle.least_key.specs.Truths.{IsTrueOf}
use Rattle.least_key.specs.declared.refusal.Refusal.TheVariants as refusal
use Rattle.archive_text.specs.Entries.{EntryView}
use Rattle.archive_text.specs.declared.rest.Form.{Form}
use Rattle.archive_text.specs.declared.rest.KeyedGraph.{KeyedGraph}
use Rattle.archive_text.specs.declared.version.Version.{Version}
use Rattle.archive_text.specs.declared.version.Version.TheVariants.{Two}
use Rattle.net_archive.specs.declared.faults.ArchiveFault.{ArchiveFault}
use Rattle.net_archive.specs.declared.faults.ArchiveFault.TheVariants.{EntryRefused, KeyDiffers, NoMemory, CountDiffers, ShellsDiffer}

-- the graph that the rows of an entry say
abbrev pub graph_of_keyed : KeyedGraph → Graph
graph_of_keyed k = graph_with k.size.dim k.size.vertices (map edge_of k.edges.items)

abbrev pub graph_of_form : Form → Graph
graph_of_form f = graph_of_keyed f.keyed

-- the graph is certain, and has the key that is kept
pub record HasKey (f : Form) : Type 0 where
  pub is_graph : IsGraph (graph_of_form f)
  pub certain : IsCertain (graph_of_form f)
  pub key : IsKeyOf (graph_of_form f) f.keyed.key

-- another key is kept than this one
abbrev pub IsOtherKey : KeyedGraph → List ℤ → ArchiveFault → Type 0
IsOtherKey k xs (KeyDiffers n kept computed) = (n ≡ k.key_line) × (kept ≡ k.key) × (computed ≡ xs) × (kept ≢ computed)
IsOtherKey k xs NoMemory = Unit {0}
IsOtherKey k xs fault = ⊥

-- the kept lists, after the key on this line, are more or fewer than the computed ones
pub record IsOtherCount (key_line : ℕ) (keeps lists : List (List ℕ)) (n kept computed : ℕ) : Type 0 where
  pub line : n ≡ key_line + 1
  pub kept_is : kept ≡ length keeps
  pub computed_is : computed ≡ length lists
  pub differ : kept ≢ computed

-- at place i, counted from 0, another list is kept, and at none before it
pub record IsFirstOther (keeps lists : List (List ℕ)) (i : ℕ) (kept computed : List ℕ) : Type 0 where
  pub inside : i < length lists
  pub kept_is : slice_get keeps i ≡ Some kept
  pub computed_is : slice_get lists i ≡ Some computed
  pub differ : kept ≢ computed
  pub first : (j : ℕ) → j < i → slice_get keeps j ≡ slice_get lists j

-- as many lists are kept, but of this class another one, the first such
pub record IsOtherList (key_line : ℕ) (keeps lists : List (List ℕ)) (n class : ℕ) (kept computed : List ℕ) : Type 0 where
  pub count : length keeps ≡ length lists
  pub before : ℕ
  pub class_is : class ≡ before + 1
  pub line : n ≡ key_line + 1 + class
  pub other : IsFirstOther keeps lists before kept computed

-- other lists are kept, after the key on this line
abbrev pub AreRefusedShells : ℕ → List (List ℕ) → List (List ℕ) → ArchiveFault → Type 0
AreRefusedShells key_line keeps lists (CountDiffers n kept computed) = IsOtherCount key_line keeps lists n kept computed
AreRefusedShells key_line keeps lists (ShellsDiffer n class kept computed) = IsOtherList key_line keeps lists n class kept computed
AreRefusedShells key_line keeps lists NoMemory = Unit {0}
AreRefusedShells key_line keeps lists fault = ⊥

-- the first place at which another list is kept, if there is one
abbrev pub IsDifferingClass : List (List ℕ) → List (List ℕ) → Option ℕ → Type 0
IsDifferingClass keeps lists None = keeps ≡ lists
IsDifferingClass keeps lists (Some i) = (kept : List ℕ) × (computed : List ℕ) × IsFirstOther keeps lists i kept computed

-- the entry that begins on this line is refused, and memory did not run out
abbrev pub IsRefusedAt : ℕ → Graph → ArchiveFault → Type 0
IsRefusedAt line G (EntryRefused n refused) = (n ≡ line) × IsTrueOf G refused × (refused ≢ refusal.NoMemory)
IsRefusedAt line G NoMemory = Unit {0}
IsRefusedAt line G fault = ⊥

-- the entry's graph has its key, and other shells are kept than those of its classes
pub record HasOtherShells (v : Version) (f : Form) (fault : ArchiveFault) : Type 0 where
  pub version : v ≡ Two
  pub has_key : HasKey f
  pub lists : List (List ℕ)
  pub are_sequences : AreSequencesOf (graph_of_form f) lists
  pub refused : AreRefusedShells f.keyed.key_line f.shells lists fault

-- the graph is certain, and another key is kept than its key
pub record HasOtherKey (f : Form) (n : ℕ) (kept computed : List ℤ) : Type 0 where
  pub line : n ≡ f.keyed.key_line
  pub is_graph : IsGraph (graph_of_form f)
  pub certain : IsCertain (graph_of_form f)
  pub kept_is : kept ≡ f.keyed.key
  pub key : IsKeyOf (graph_of_form f) computed
  pub differ : kept ≢ computed

-- the fault of an entry of this form, whose first row has this number
abbrev pub IsJudged : Version → ℕ → Form → ArchiveFault → Type 0
IsJudged v line f (EntryRefused n refused) = IsRefusedAt line (graph_of_form f) (EntryRefused n refused)
IsJudged v line f (KeyDiffers n kept computed) = HasOtherKey f n kept computed
IsJudged v line f (CountDiffers n kept computed) = HasOtherShells v f (CountDiffers n kept computed)
IsJudged v line f (ShellsDiffer n class kept computed) = HasOtherShells v f (ShellsDiffer n class kept computed)
IsJudged v line f NoMemory = Unit {0}
IsJudged v line f fault = ⊥

-- e is the entry with this name and form; its shells are those that are kept, if they are
pub record IsEntryOfForm (v : Version) (name : List ℕ) (f : Form) (e : EntryView) : Type 0 where
  pub name_is : e.name ≡ name
  pub graph : e.graph ≡ graph_of_form f
  pub key : e.key ≡ f.keyed.key
  pub has_key : HasKey f
  pub shells : AreSequencesOf e.graph e.shells
  pub kept : v ≡ Two → e.shells ≡ f.shells
