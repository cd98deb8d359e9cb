-- What the outcomes of all blocks say together: two keys decide whether nets are isomorphic, a net that is refused as one without a key is
-- that of no accepted block and of no entry, and a certain graph is accepted.
use Rattle.std.specs.Prelude.{◌≡◌, ◌≢◌, ◌↔◌, ℕ, ◌<◌, ℤ, true, List, length, slice_index_or, Option, Some, None}
use Rattle.std.specs.List.{Contains}
use Rattle.periodic_net.specs.Graph.{Graph}
use Rattle.periodic_net.specs.Maps.{BareIso, Iso}
use Rattle.cgd_read.specs.Graphs.{graph_of}
use Rattle.cgd_read.specs.Views.{RawView, Net, BlockView}
use Rattle.quotient_graph.specs.Stars.{IsInOrder}
use Rattle.least_key.specs.AnyNets.{net_view}
use Rattle.least_key.specs.Certain.{IsCertain}
use Rattle.least_key.specs.declared.refusal.Refusal.{Refusal}
use Rattle.least_key.specs.declared.refusal.Refusal.TheVariants.{Disconnected, Degenerate, Collision, TooMuch}
use Rattle.archive_text.specs.Entries.{EntryView}
use Rattle.net_archive.specs.Deciding.{KeysDecideArchive}
use Rattle.net_report.specs.Keys.{key_text}
use Rattle.net_report.specs.declared.outcome.Outcome.{Outcome}
use Rattle.net_report.specs.declared.outcome.OutcomeBody.{OutcomeBody}
use Rattle.net_report.specs.declared.outcome.OutcomeBody.TheVariants.{Refused, Keyed, Identified}
use Rattle.net_report.specs.declared.command.Command.{Command}
use Rattle.net_report.specs.declared.command.Command.TheVariants.{Components}
use Rattle.block_answers.specs.Outcomes.{AreOutcomesFrom, is_accepted}

-- the key that is reported of a block
abbrev pub key_told : OutcomeBody → Option (List ℤ)
key_told (Keyed size net) = Some (net_view net).key
key_told (Identified size vertices net shells names) = Some (net_view net).key
key_told told = None

-- block number i, counted from 0, is this one, with this outcome
pub record IsBlockAt (blocks : List BlockView) (outcomes : List Outcome) (i : ℕ) (block : BlockView) (outcome : Outcome) : Type 0 where
  pub inside : i < length blocks
  pub block_is : slice_index_or blocks i block ≡ block
  pub outcome_is : slice_index_or outcomes i outcome ≡ outcome

-- block number i, counted from 0, is the graph raw, and xs is the key that is reported of it
pub record HasKeyAt (blocks : List BlockView) (outcomes : List Outcome) (i : ℕ) (raw : RawView) (xs : List ℤ) : Type 0 where
  pub block : BlockView
  pub outcome : Outcome
  pub at : IsBlockAt blocks outcomes i block outcome
  pub graph : block.body ≡ Net raw
  pub told : key_told outcome.body ≡ Some xs

-- the keys of two blocks are equal if and only if their graphs are the same in this sense
abbrev pub KeysDecideBlocks : (Graph → Graph → Type 0) → List BlockView → List Outcome → Type 0
KeysDecideBlocks Same blocks outcomes =
    (i j : ℕ) (raw raw' : RawView) (xs ys : List ℤ) → HasKeyAt blocks outcomes i raw xs → HasKeyAt blocks outcomes j raw' ys
    → (xs ≡ ys) ↔ Same (graph_of raw) (graph_of raw')

-- so are the keys of a block and of an entry of the archive
abbrev pub KeysDecideEntries : (Graph → Graph → Type 0) → List EntryView → List BlockView → List Outcome → Type 0
KeysDecideEntries Same entries blocks outcomes =
    (i : ℕ) (raw : RawView) (xs : List ℤ) (e : EntryView) → HasKeyAt blocks outcomes i raw xs → Contains entries e
    → (xs ≡ e.key) ↔ Same (graph_of raw) e.graph

-- the printed lines of the keys of two blocks are equal if and only if the infinite graphs are isomorphic, by any bijection
abbrev pub KeyLinesDecideBlocks : List BlockView → List Outcome → Type 0
KeyLinesDecideBlocks blocks outcomes =
    (i j : ℕ) (raw raw' : RawView) (xs ys : List ℤ) → HasKeyAt blocks outcomes i raw xs → HasKeyAt blocks outcomes j raw' ys
    → (key_text xs ≡ key_text ys) ↔ BareIso (graph_of raw) (graph_of raw')

-- the refusal that is reported of a block
abbrev pub refusal_told : OutcomeBody → Option Refusal
refusal_told (Refused size names refusal) = Some refusal
refusal_told told = None

-- the refusal is of the net, whatever cell shows it: it is not connected, or two vertices stand in one place, or its key work is past the
-- limit. Past the limits of a placement, or without a modulus, it may be in one cell and not in another
abbrev pub IsOfNet : Refusal → Type 0
IsOfNet (Disconnected split) = Unit {0}
IsOfNet (Degenerate split) = Unit {0}
IsOfNet (Collision dim u v t) = Unit {0}
IsOfNet (TooMuch done counted) = Unit {0}
IsOfNet refusal = ⊥

-- block number i, counted from 0, is the graph raw, and is refused by a refusal of its net
pub record IsRefusedAt (blocks : List BlockView) (outcomes : List Outcome) (i : ℕ) (raw : RawView) : Type 0 where
  pub block : BlockView
  pub outcome : Outcome
  pub at : IsBlockAt blocks outcomes i block outcome
  pub graph : block.body ≡ Net raw
  pub refusal : Refusal
  pub told : refusal_told outcome.body ≡ Some refusal
  pub of_net : IsOfNet refusal

-- block number i, counted from 0, is the graph raw, and is accepted
pub record IsAcceptedAt (blocks : List BlockView) (outcomes : List Outcome) (i : ℕ) (raw : RawView) : Type 0 where
  pub block : BlockView
  pub outcome : Outcome
  pub at : IsBlockAt blocks outcomes i block outcome
  pub graph : block.body ≡ Net raw
  pub told : is_accepted outcome ≡ true

-- no bijection between the vertices of a net that is refused so and those of the net of an accepted block joins images if and only if the
-- vertices are joined
abbrev pub RefusedAreApart : List BlockView → List Outcome → Type 0
RefusedAreApart blocks outcomes =
    (i j : ℕ) (raw raw' : RawView) → IsRefusedAt blocks outcomes i raw → IsAcceptedAt blocks outcomes j raw' → ¬ BareIso (graph_of raw) (graph_of raw')

-- nor one between its vertices and those of the net of an entry
abbrev pub RefusedAreNoEntries : List EntryView → List BlockView → List Outcome → Type 0
RefusedAreNoEntries entries blocks outcomes =
    (i : ℕ) (raw : RawView) (e : EntryView) → IsRefusedAt blocks outcomes i raw → Contains entries e → ¬ BareIso (graph_of raw) e.graph

-- a block whose graph is certain is accepted
abbrev pub CertainAreAccepted : List BlockView → List Outcome → Type 0
CertainAreAccepted blocks outcomes =
    (i : ℕ) (block : BlockView) (outcome : Outcome) (raw : RawView) → IsBlockAt blocks outcomes i block outcome → block.body ≡ Net raw
    → ((G : Graph) → IsInOrder (graph_of raw) G → IsCertain G) → is_accepted outcome ≡ true

-- These are the outcomes of the blocks under a command, beside an archive with these entries: one of each block, in order. Two keys, of
-- blocks or of entries, are equal if and only if the nets are isomorphic, by a bijection with a period or by any. So are the printed lines of
-- two keys. A net that is refused for what it is in each cell is that of no accepted block and of no entry. And but for the components, a
-- block whose graph is certain is accepted.
pub record AreOutcomes (command : Command) (entries : List EntryView) (blocks : List BlockView) (outcomes : List Outcome) : Type 0 where
  pub each : AreOutcomesFrom entries command 1 blocks outcomes
  pub keys : KeysDecideBlocks Iso blocks outcomes
  pub entry_keys : KeysDecideEntries Iso entries blocks outcomes
  pub archive_keys : KeysDecideArchive Iso entries
  pub bare_keys : KeysDecideBlocks BareIso blocks outcomes
  pub bare_entry_keys : KeysDecideEntries BareIso entries blocks outcomes
  pub bare_archive_keys : KeysDecideArchive BareIso entries
  pub key_lines : KeyLinesDecideBlocks blocks outcomes
  pub refused : RefusedAreApart blocks outcomes
  pub refused_entries : RefusedAreNoEntries entries blocks outcomes
  pub certain : command ≢ Components → CertainAreAccepted blocks outcomes
