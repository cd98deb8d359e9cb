-- What is due to the arguments and to the bytes of the files that they name.
use Rattle.std.specs.Prelude.{◌≡◌, ◌≢◌, ℕ, ◌+◌, ◌≤◌, ◌<◌, true, false, List, [], ◌∷◌, ◌++◌, length, Option, Some, None, unwrap_or, All}
use Rattle.periodic_net.specs.Maps.{BareIso, Iso}
use Rattle.cgd_read.specs.Graphs.{graph_of}
use Rattle.cgd_read.specs.Views.{RawView, Net, BlockView}
use Rattle.cgd_read.specs.Blocks.{blocks_of, most_blocks}
use Rattle.quotient_graph.specs.Stars.{IsInOrder}
use Rattle.least_key.specs.KeyedNets.{KeyedNet, IsKeyed}
use Rattle.archive_text.specs.Entries.{EntryView}
use Rattle.archive_text.specs.Groups.{AreGroups}
use Rattle.net_archive.specs.Adding.{IsEntryOf, IsAddFault}
use Rattle.net_archive.specs.Archives.{ArchiveView, IsArchive, archive_text}
use Rattle.net_archive.specs.Deciding.{AreGroupsBy}
use Rattle.net_archive.specs.Migrating.{newest, IsMigrated}
use Rattle.net_archive.specs.declared.faults.AddFault.{AddFault}
use Rattle.net_archive.specs.declared.faults.AddFault.TheVariants as add
use Rattle.archive_answers.specs.ArchiveTexts.{add_fault_text, migrate_fault_text, groups_text}
use Rattle.command_words.specs.Tasks.{Task, Check, Place, Key, Identify, Components, Symmetry, Add, Duplicates, Migrate, Union, Same, Verify, Workload, Cover}
use Rattle.net_report.specs.declared.command.Command.{Command}
use Rattle.net_report.specs.declared.command.Command.TheVariants as asks
use Rattle.workload.specs.Workload.{workload}
use Rattle.block_answers.specs.Reports.{IsReport}
use Rattle.archive_answers.specs.ArchiveBytes.{IsArchiveIn, IsBadArchive, most_bytes}
use Rattle.answers.specs.Summaries.{IsSummaryAs}
use Rattle.map_answers.specs.DueToVerify.{IsDueToVerify}
use Rattle.cover_answers.specs.Due.{IsCoveredAs}
use Rattle.map_answers.specs.Due.{IsSameAs}
use Rattle.symmetry_answers.specs.Due.{IsSymmetryAs}
use Rattle.archive_answers.specs.Unions.{HasManyItems, IsUnionDue}
use Rattle.net_report.specs.declared.status.Status.{Status}
use Rattle.net_report.specs.declared.status.Status.TheVariants as status

-- the bytes whose blocks it is about: those of the file, or those that it makes
abbrev pub bytes_of : Task → List ℕ → List ℕ
bytes_of (Workload count) file = workload count
bytes_of task file = file

-- the report, by the status that goes with it
abbrev pub IsReportAs : Command → List EntryView → List BlockView → Status → List ℕ → Type 0
IsReportAs command entries blocks status.Done text = IsReport command entries blocks true text
IsReportAs command entries blocks status.SomeRefused text = IsReport command entries blocks false text
IsReportAs command entries blocks s text = ⊥

-- the name under which a block is added: the one that is given, or its own, or the empty one
abbrev pub name_to_add : Option (List ℕ) → BlockView → List ℕ
name_to_add (Some name) block = name
name_to_add None block = unwrap_or block.name []

-- the net of a block, with its key
pub record IsNetOf (block : BlockView) (net : KeyedNet) : Type 0 where
  pub raw : RawView
  pub graph : block.body ≡ Net raw
  pub read : IsInOrder (graph_of raw) net.placed.graph
  pub keyed : IsKeyed net

-- each block is a graph that has its key
abbrev pub AreAccepted : List BlockView → Type 0
AreAccepted blocks = All (λ block. (net : KeyedNet) × IsNetOf block net) blocks

-- e is the entry of a block under a name
pub record IsEntryOfBlock (name : List ℕ) (block : BlockView) (e : EntryView) : Type 0 where
  pub net : KeyedNet
  pub is_net : IsNetOf block net
  pub entry : IsEntryOf name net e

-- the entries of blocks, the first under the given name
abbrev pub AreEntriesOf : Option (List ℕ) → List BlockView → List EntryView → Type 0
AreEntriesOf given [] [] = Unit {0}
AreEntriesOf given (block ∷ blocks) (e ∷ es) = IsEntryOfBlock (name_to_add given block) block e × AreEntriesOf None blocks es
AreEntriesOf given blocks es = ⊥

-- the name that is given is for the first block alone
abbrev pub given_after : Option (List ℕ) → List BlockView → Option (List ℕ)
given_after given [] = given
given_after given (block ∷ before) = None

-- the archive with more entries
abbrev pub with_entries : ArchiveView → List EntryView → ArchiveView
with_entries a es = record { version = a.version; entries = a.entries ++ es }

-- the entries of these blocks, added to the archive a, make the archive b
pub record IsAdded (given : Option (List ℕ)) (blocks : List BlockView) (a b : ArchiveView) : Type 0 where
  pub more : List EntryView
  pub are_entries : AreEntriesOf given blocks more
  pub longer : b ≡ with_entries a more
  pub is_archive : IsArchive b

-- all blocks are added, and this is the text of the longer archive
pub record IsAddedAs (given : Option (List ℕ)) (blocks : List BlockView) (a : ArchiveView) (text : List ℕ) : Type 0 where
  pub longer : ArchiveView
  pub added : IsAdded given blocks a longer
  pub text_is : text ≡ archive_text longer

-- the blocks before this one are added, and this one, under its name, cannot be
pub record IsNotAdded (given : Option (List ℕ)) (blocks : List BlockView) (a : ArchiveView) (number : ℕ) (fault : AddFault) : Type 0 where
  pub before : List BlockView
  pub block : BlockView
  pub after : List BlockView
  pub split : blocks ≡ before ++ block ∷ after
  pub number_is : number ≡ length before + 1
  pub longer : ArchiveView
  pub added : IsAdded given before a longer
  pub net : KeyedNet
  pub is_net : IsNetOf block net
  pub cause : IsAddFault longer (name_to_add (given_after given before) block) net fault

-- each block is accepted, and the first that cannot be added is reported
pub record IsNotAddedAs (given : Option (List ℕ)) (blocks : List BlockView) (a : ArchiveView) (text : List ℕ) : Type 0 where
  pub accepted : AreAccepted blocks
  pub number : ℕ
  pub fault : AddFault
  pub not_added : IsNotAdded given blocks a number fault
  pub told : fault ≢ add.NoMemory
  pub text_is : text ≡ add_fault_text number fault

-- these groups of entries, two of which share one if and only if their nets are isomorphic, by bijections with a period and by any
pub record AreGroupsIn (a : ArchiveView) (text : List ℕ) : Type 0 where
  pub groups : List (List ℕ)
  pub are_groups : AreGroups a.entries groups
  pub isomorphic : AreGroupsBy Iso a.entries groups
  pub bare : AreGroupsBy BareIso a.entries groups
  pub text_is : text ≡ groups_text a.entries groups

-- the groups, and the status that goes with them
abbrev pub AreGroupsAs : ArchiveView → Status → List ℕ → Type 0
AreGroupsAs a status.Done text = AreGroupsIn a text
AreGroupsAs a s text = ⊥

-- the text in the newest format if it is not too long, and else its length
abbrev pub IsMigratedAs : ArchiveView → Status → List ℕ → Type 0
IsMigratedAs a status.Done text = IsMigrated a text
IsMigratedAs a status.MigrateRefused text = (most_bytes < length (newest a)) × (text ≡ migrate_fault_text (length (newest a)))
IsMigratedAs a s text = ⊥

-- what becomes of an addition
abbrev pub IsAddedOrRefused : Option (List ℕ) → List BlockView → ArchiveView → Status → List ℕ → Type 0
IsAddedOrRefused given blocks a status.Done text = IsAddedAs given blocks a text
IsAddedOrRefused given blocks a status.SomeRefused text = IsReport asks.Key [] blocks false text
IsAddedOrRefused given blocks a status.AddRefused text = IsNotAddedAs given blocks a text
IsAddedOrRefused given blocks a s text = ⊥

-- b is the archive a with the entries of the first of these blocks, of all or of fewer
abbrev pub HasFirstOf : Option (List ℕ) → List BlockView → ArchiveView → ArchiveView → Type 0
HasFirstOf given blocks a b = (before : List BlockView) × (after : List BlockView) × (blocks ≡ before ++ after) × IsAdded given before a b

-- b is the archive a with the entries of the blocks before this one, which cannot be added
abbrev pub HasThoseBefore : Option (List ℕ) → List BlockView → ArchiveView → ℕ → AddFault → ArchiveView → Type 0
HasThoseBefore given blocks a number fault b = (refused : IsNotAdded given blocks a number fault) × (b ≡ refused.longer)

-- an addition that was answered so has made b of the archive a: if all blocks were added, with their entries; if one has no key, as it
-- was; if one cannot be added, with those before it
abbrev pub HasBecome : Option (List ℕ) → List BlockView → ArchiveView → Status → ArchiveView → Type 0
HasBecome given blocks a status.Done b = IsAdded given blocks a b
HasBecome given blocks a status.SomeRefused b = b ≡ a
HasBecome given blocks a status.AddRefused b = (number : ℕ) × (fault : AddFault) × (fault ≢ add.NoMemory) × HasThoseBefore given blocks a number fault b
HasBecome given blocks a s b = ⊥

-- and so has any task on blocks; all but additions leave it as it was
abbrev pub HasBecomeFor : Task → List BlockView → ArchiveView → Status → ArchiveView → Type 0
HasBecomeFor (Add file name given) blocks a s b = HasBecome given blocks a s b
HasBecomeFor task blocks a s b = b ≡ a

-- if memory is refused, an addition has added some of the first, and any other task leaves the archive as it was
abbrev pub HasFirstFor : Task → List BlockView → ArchiveView → ArchiveView → Type 0
HasFirstFor (Add file name given) blocks a b = HasFirstOf given blocks a b
HasFirstFor task blocks a b = b ≡ a

-- this task, of these blocks and this archive, has this answer
abbrev pub IsDueFor : Task → List BlockView → ArchiveView → Status → List ℕ → Type 0
IsDueFor (Check file) blocks a s text = IsReportAs asks.Check a.entries blocks s text
IsDueFor (Place file) blocks a s text = IsReportAs asks.Place a.entries blocks s text
IsDueFor (Key file) blocks a s text = IsReportAs asks.Key a.entries blocks s text
IsDueFor (Identify file name) blocks a s text = IsReportAs asks.Identify a.entries blocks s text
IsDueFor (Components file) blocks a s text = IsReportAs asks.Components a.entries blocks s text
IsDueFor (Symmetry file) blocks a s text = IsSymmetryAs blocks s text
IsDueFor (Add file name given) blocks a s text = IsAddedOrRefused given blocks a s text
IsDueFor (Duplicates name) blocks a s text = AreGroupsAs a s text
IsDueFor (Migrate name) blocks a s text = IsMigratedAs a s text
IsDueFor (Cover file cell) blocks a s text = IsCoveredAs cell blocks s text
IsDueFor (Same file) blocks a s text = IsSameAs blocks s text
IsDueFor (Union file name) blocks a s text = ⊥
IsDueFor (Verify file) blocks a s text = ⊥
IsDueFor (Workload count) blocks a s text = IsSummaryAs count blocks s text

-- the task asks for the blocks of bytes, or for none; a union and a check of maps ask for something else
abbrev pub IsOfBlocks : Task → Type 0
IsOfBlocks (Union file name) = ⊥
IsOfBlocks (Verify file) = ⊥
IsOfBlocks task = Unit {0}

-- this task, of the blocks of these bytes and of the archive of those, has this answer
abbrev pub IsDueToBlocks : Task → List ℕ → Option (List ℕ) → Status → List ℕ → Type 0
IsDueToBlocks task bytes archive status.BadArchive text = (length (blocks_of bytes) ≤ most_blocks) × IsBadArchive archive text
IsDueToBlocks task bytes archive s text = (length (blocks_of bytes) ≤ most_blocks) × (a : ArchiveView) × IsArchiveIn archive a
    × IsDueFor task (blocks_of bytes) a s text

-- this task, of these bytes and of the archive of those, has this answer
abbrev pub IsDueWith : Task → List ℕ → Option (List ℕ) → Status → List ℕ → Type 0
IsDueWith (Union file name) bytes archive s text = IsUnionDue bytes archive s text
IsDueWith (Verify file) bytes archive s text = IsDueToVerify bytes s text
IsDueWith task bytes archive s text = IsDueToBlocks task bytes archive s text

-- more blocks, or items, begin in the bytes than may; of maps there may be any number, and a workload is made with few blocks
abbrev pub HasTooMany : Task → List ℕ → Type 0
HasTooMany (Union file name) bytes = HasManyItems bytes
HasTooMany (Verify file) bytes = ⊥
HasTooMany (Workload count) bytes = ⊥
HasTooMany task bytes = most_blocks < length (blocks_of bytes)

-- this task, of these bytes of its file and of its archive, if it names them, has this answer
abbrev pub IsDueOn : Task → List ℕ → Option (List ℕ) → Status → List ℕ → Type 0
IsDueOn task file archive status.TooManyBlocks text = HasTooMany task (bytes_of task file) × (text ≡ [])
IsDueOn task file archive s text = IsDueWith task (bytes_of task file) archive s text
