-- The headline: what `identify` reports on the bytes of a file, beside those of an archive.
use Rattle.std.specs.Prelude.{◌≡◌, ℕ, List, Option, if◌then◌else◌}
use Rattle.std.specs.List.{list_all}
use Rattle.cgd_read.specs.Blocks.{blocks_of}
use Rattle.net_report.specs.declared.command.Command.TheVariants.{Identify}
use Rattle.net_archive.specs.Archives.{ArchiveView}
use Rattle.block_answers.specs.Outcomes.{Outcome, AreOutcomesFrom, is_accepted}
use Rattle.block_answers.specs.Reports.{report_text}
use Rattle.net_archive.specs.Deciding.{KeysDecideArchive}
use Rattle.periodic_net.specs.Maps.{BareIso, Iso}
use Rattle.block_answers.specs.Deciding.{KeyLinesDecideBlocks, KeysDecideBlocks, KeysDecideEntries, CertainAreAccepted, RefusedAreApart, RefusedAreNoEntries}
use Rattle.archive_answers.specs.ArchiveBytes.{IsArchiveIn}
use Rattle.net_report.specs.declared.status.Status.{Status}
use Rattle.net_report.specs.declared.status.Status.TheVariants.{Done, SomeRefused}

-- Of these bytes of a file, beside those of an archive, `identify` writes this text and ends so:
--
-- Each block is answered as of another kind, or refused with values that show it malformed, disconnected, degenerate or colliding, or as
-- past a stated limit or without a modulus, or gets its barycentric placement, unique up to translation, its primitive graph, its key and
-- exactly the archive's isomorphic entries; two keys are equal if and only if some bijection between the vertices of the nets joins images
-- if and only if the vertices are joined, and each such bijection has a period; a net that is refused as disconnected, degenerate, colliding
-- or past the key work is that of no accepted block and of no entry; want of memory aside.
pub record Headline (file : List ℕ) (archive : Option (List ℕ)) (status : Status) (text : List ℕ) : Type 0 where
  -- the archive is read without a fault, and each of its keys computed anew
  pub known : ArchiveView
  pub read : IsArchiveIn archive known
  -- the answer to each block, in order
  pub outcomes : List Outcome
  pub each : AreOutcomesFrom known.entries Identify 1 (blocks_of file) outcomes
  -- two keys, of two blocks, of a block and an entry, or of two entries, are equal if and only if a periodic bijection carries one net to the
  -- other
  pub blocks : KeysDecideBlocks Iso (blocks_of file) outcomes
  pub entries : KeysDecideEntries Iso known.entries (blocks_of file) outcomes
  pub archive_entries : KeysDecideArchive Iso known.entries
  -- and if and only if the infinite graphs are isomorphic, by any bijection
  pub bare_blocks : KeysDecideBlocks BareIso (blocks_of file) outcomes
  pub bare_entries : KeysDecideEntries BareIso known.entries (blocks_of file) outcomes
  pub bare_archive_entries : KeysDecideArchive BareIso known.entries
  -- and so are the printed lines of two keys
  pub key_lines : KeyLinesDecideBlocks (blocks_of file) outcomes
  -- what is refused for what it is in each cell is neither the net of an accepted block nor that of an entry
  pub refused : RefusedAreApart (blocks_of file) outcomes
  pub refused_entries : RefusedAreNoEntries known.entries (blocks_of file) outcomes
  -- a block whose graph is certain is accepted
  pub certain : CertainAreAccepted (blocks_of file) outcomes
  -- all of this is written, and the status says whether each block was accepted
  pub written : text ≡ report_text outcomes
  pub ending : status ≡ (if list_all is_accepted outcomes then Done else SomeRefused)

-- each block is answered
abbrev pub IsReported : Status → Type 0
IsReported Done = Unit {0}
IsReported SomeRefused = Unit {0}
IsReported status = ⊥
