-- What becomes of each block under a command.
use Rattle.std.specs.Prelude.{◌≡◌, ℕ, ◌+◌, Bool, true, false, List, [], ◌∷◌, length, Option, Some, None, option_copied}
use Rattle.std.specs.List.{list_all}
use Rattle.periodic_net.specs.Graph.{Graph, IsConnected, IsGraph}
use Rattle.periodic_net.specs.Placement.{Placement, IsBarycentric, IsTranslate}
use Rattle.cgd_read.specs.Graphs.{graph_of}
use Rattle.cgd_read.specs.Views.{RawView, BodyView, Net, Other, Faulty, BlockView}
use Rattle.quotient_graph.specs.Stars.{IsInOrder}
use Rattle.block_answers.specs.ComponentLines.{AreComponentsTold}
use Rattle.coordination.specs.Sequences.{AreSequencesOf}
use Rattle.archive_text.specs.Entries.{EntryView}
use Rattle.net_archive.specs.Deciding.{AreBareNamesOf, AreNamesOf}
pub use Rattle.net_report.specs.Accepting.{is_accepted, is_accepted_body}
use Rattle.net_report.specs.declared.outcome.Size.{Size}
pub use Rattle.net_report.specs.declared.outcome.Outcome.{Outcome}
pub use Rattle.net_report.specs.declared.outcome.OutcomeBody.{OutcomeBody}
pub use Rattle.net_report.specs.declared.outcome.OutcomeBody.TheVariants.{Unsupported, Malformed, Refused, Checked, Located, Keyed, Identified, Lines}
pub use Rattle.net_report.specs.declared.outcome.OutcomeBody.TheVariants.{Faulty as FaultyItem}
use Rattle.least_key.specs.AnyPlacements.{placed_view}
use Rattle.least_key.specs.AnyNets.{net_view}
use Rattle.least_key.specs.KeyedNets.{IsKeyed}
use Rattle.least_key.specs.Placings.{IsPlacedAs}
use Rattle.least_key.specs.Truths.{IsTrueOf, IsOfConnecting, IsOfPlacing}
use Rattle.least_key.specs.declared.net.Net.{Net as KeyedNet}
use Rattle.least_key.specs.declared.path.AnyPlaced.{AnyPlaced}
use Rattle.least_key.specs.declared.refusal.Refusal.{Refusal}
use Rattle.least_key.specs.declared.refusal.Refusal.TheVariants.{NoMemory}
use Rattle.net_report.specs.declared.command.Command.{Command}
use Rattle.net_report.specs.Telling.{IsPrintedWhole}
use Rattle.net_report.specs.declared.command.Command.TheVariants.{Check, Place, Key, Identify, Components}

-- its sizes
abbrev pub size_of : RawView → Size
size_of raw = record { dim = raw.dim; vertices = length raw.names; edges = length raw.edges; repeats = raw.repeats }

-- a command may report this refusal of a net
abbrev pub MayTell : Command → Refusal → Type 0
MayTell command NoMemory = ⊥
MayTell Check refusal = IsOfConnecting refusal
MayTell Place refusal = IsOfPlacing refusal
MayTell Key refusal = Unit {0}
MayTell Identify refusal = Unit {0}
MayTell Components refusal = ⊥

-- G is the graph of a block, a quotient graph with its edges in order, and size has its sizes
pub record IsGraphOf (raw : RawView) (size : Size) (G : Graph) : Type 0 where
  pub size_is : size ≡ size_of raw
  pub in_order : IsInOrder (graph_of raw) G
  pub is_graph : IsGraph G

-- a refusal that the command may report, and that is true of the block's graph, beside the names of its vertices
pub record IsRefusedAs (command : Command) (raw : RawView) (size : Size) (names : List (List ℕ)) (refusal : Refusal) : Type 0 where
  pub graph : Graph
  pub read : IsGraphOf raw size graph
  pub names_are : names ≡ raw.names
  pub may : MayTell command refusal
  pub is_true : IsTrueOf graph refusal

-- the net of the block is connected
pub record IsCheckedAs (raw : RawView) (size : Size) : Type 0 where
  pub graph : Graph
  pub read : IsGraphOf raw size graph
  pub connected : IsConnected graph

-- every barycentric placement of G is a translate of p
abbrev pub IsOnlyPlacement : Graph → Placement → Type 0
IsOnlyPlacement G p = (q : Placement) → IsBarycentric G q → IsTranslate G p q

-- the net of the block is connected, and this is its normal placement, the only one but for translates, beside the names of its vertices
pub record IsLocatedAs (raw : RawView) (size : Size) (names : List (List ℕ)) (placed : AnyPlaced) : Type 0 where
  pub graph : Graph
  pub read : IsGraphOf raw size graph
  pub names_are : names ≡ raw.names
  pub placed_as : IsPlacedAs graph (placed_view placed)
  pub only : IsOnlyPlacement graph (placed_view placed).placement

-- the block's graph has a key, and this is its net
pub record IsKeyedAs (raw : RawView) (size : Size) (net : KeyedNet) : Type 0 where
  pub graph : Graph
  pub read : IsGraphOf raw size graph
  pub net_is : (net_view net).placed.graph ≡ graph
  pub keyed : IsKeyed (net_view net)

-- the block's graph has a key, and this is its net, with the placement, the only one but for translates, the primitive graph, the
-- key and the coordination sequences; and these are the names of exactly the isomorphic entries, by bijections with a period and by any
pub record IsIdentifiedAs (entries : List EntryView) (raw : RawView) (size : Size) (vertices : List (List ℕ)) (net : KeyedNet)
    (shells names : List (List ℕ)) : Type 0 where
  pub keyed : IsKeyedAs raw size net
  pub vertices_are : vertices ≡ raw.names
  pub only : IsOnlyPlacement keyed.graph (net_view net).placed.placement
  pub shells_are : AreSequencesOf keyed.graph shells
  pub names_are : AreNamesOf keyed.graph entries names
  pub bare_names_are : AreBareNamesOf keyed.graph entries names

-- the components of the block's graph are reported in these lines: each part with its key or its refusal, or why there are no parts
pub record IsDividedAs (raw : RawView) (size : Size) (accepted : Bool) (lines : List ℕ) : Type 0 where
  pub graph : Graph
  pub read : IsGraphOf raw size graph
  pub told : AreComponentsTold graph raw.names accepted lines

-- what a command reports on a block, beside an archive with these entries
abbrev pub IsBodyOf : List EntryView → Command → BodyView → OutcomeBody → Type 0
IsBodyOf entries command (Other token) (Unsupported told) = told.now ≡ token
IsBodyOf entries command (Faulty fault) (Malformed told) = told ≡ fault
IsBodyOf entries command (Net raw) (Refused size names refusal) = IsRefusedAs command raw size names refusal
IsBodyOf entries Check (Net raw) (Checked size) = IsCheckedAs raw size
IsBodyOf entries Place (Net raw) (Located size names placed) = IsLocatedAs raw size names placed
IsBodyOf entries Key (Net raw) (Keyed size net) = IsKeyedAs raw size net
IsBodyOf entries Identify (Net raw) (Identified size vertices net shells names) = IsIdentifiedAs entries raw size vertices net shells names
IsBodyOf entries Components (Net raw) (Lines size lines) = (accepted : Bool) × IsDividedAs raw size accepted lines
IsBodyOf entries command body told = ⊥

-- the outcome of the block with this number, whose numbers are printed whole
pub record IsOutcomeOf (entries : List EntryView) (command : Command) (number : ℕ) (block : BlockView) (o : Outcome) : Type 0 where
  pub number_is : o.number ≡ number
  pub line : o.line ≡ block.line
  pub name : option_copied o.name ≡ block.name
  pub body : IsBodyOf entries command block.body o.body
  pub whole : IsPrintedWhole o

-- one outcome for each block, with the blocks numbered from this number on
abbrev pub AreOutcomesFrom : List EntryView → Command → ℕ → List BlockView → List Outcome → Type 0
AreOutcomesFrom entries command number [] [] = Unit {0}
AreOutcomesFrom entries command number (block ∷ blocks) (o ∷ os) = IsOutcomeOf entries command number block o
    × AreOutcomesFrom entries command (number + 1) blocks os
AreOutcomesFrom entries command number blocks os = ⊥

-- whether a block whose components are reported in these lines was accepted, and with it its lines; another one was not
abbrev pub IsAcceptedInParts : BodyView → OutcomeBody → Bool → Type 0
IsAcceptedInParts (Net raw) (Lines size lines) accepted = IsDividedAs raw size accepted lines
IsAcceptedInParts body told accepted = accepted ≡ false

-- whether a block of which a command reports this was accepted: but for components its outcome shows it
abbrev pub IsAcceptedAs : Command → BodyView → OutcomeBody → Bool → Type 0
IsAcceptedAs Components body told accepted = IsAcceptedInParts body told accepted
IsAcceptedAs command body told accepted = accepted ≡ is_accepted_body told

-- whether each of the blocks whose components are reported was accepted
abbrev pub AreAcceptedInParts : List BlockView → List Outcome → List Bool → Type 0
AreAcceptedInParts [] [] [] = Unit {0}
AreAcceptedInParts (block ∷ blocks) (o ∷ os) (accepted ∷ each) = IsAcceptedInParts block.body o.body accepted × AreAcceptedInParts blocks os each
AreAcceptedInParts blocks os each = ⊥

-- and whether all of them were
pub record AreAllInParts (blocks : List BlockView) (outcomes : List Outcome) (accepted : Bool) : Type 0 where
  pub each : List Bool
  pub are_each : AreAcceptedInParts blocks outcomes each
  pub all : accepted ≡ list_all (λ (b : Bool). b) each

-- whether all blocks of which a command reports these outcomes were accepted
abbrev pub AreAllAccepted : Command → List BlockView → List Outcome → Bool → Type 0
AreAllAccepted Components blocks outcomes accepted = AreAllInParts blocks outcomes accepted
AreAllAccepted command blocks outcomes accepted = accepted ≡ list_all is_accepted outcomes

-- the net that is reported of a block with its key alone
abbrev pub net_told : OutcomeBody → Option KeyedNet
net_told (Keyed size net) = Some net
net_told body = None
