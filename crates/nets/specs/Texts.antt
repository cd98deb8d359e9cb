-- The net of the first graph of a text, or why there is none.
use Rattle.std.specs.Prelude.{◌≡◌, ◌≢◌, ℕ, ◌≤◌, ◌<◌, List, [], ◌∷◌, length, Option, None, Some}
use Rattle.periodic_net.specs.Graph.{Graph}
use Rattle.quotient_graph.specs.Stars.{IsInOrder}
use Rattle.cgd_read.specs.Blocks.{blocks_of, most_blocks}
use Rattle.cgd_read.specs.Graphs.{graph_of}
use Rattle.cgd_read.specs.Views.{BlockView, BodyView, Net, RawView}
use Rattle.least_key.specs.declared.refusal.Refusal.{Refusal}
use Rattle.least_key.specs.declared.refusal.Refusal.TheVariants as refusal
use Rattle.nets.specs.Refused.{IsTrueInOrder}
use Rattle.nets.specs.declared.text_fault.TextFault.{TextFault}
use Rattle.nets.specs.declared.text_fault.TextFault.TheVariants.{NoGraph, TooManyBlocks, Refused, NoMemory}

-- the graph of a block, or else the later one
abbrev pub graph_or : BodyView → Option RawView → Option RawView
graph_or (Net raw) later = Some raw
graph_or body later = later

-- the first graph among blocks
abbrev pub first_graph : List BlockView → Option RawView
first_graph [] = None
first_graph (block ∷ blocks) = graph_or block.body (first_graph blocks)

-- the text has no more blocks than are read, and this is the first graph among them, if there is one
pub record IsFirstIn (text : List ℕ) (found : Option RawView) : Type 0 where
  pub few : length (blocks_of text) ≤ most_blocks
  pub first : first_graph (blocks_of text) ≡ found

-- G is the first graph of the text, with its edges in order
pub record IsGraphIn (text : List ℕ) (G : Graph) : Type 0 where
  pub raw : RawView
  pub first : IsFirstIn text (Some raw)
  pub in_order : IsInOrder (graph_of raw) G

-- the first graph of the text is refused, and what the refusal says is true of it
pub record IsRefusedIn (text : List ℕ) (refused : Refusal) : Type 0 where
  pub raw : RawView
  pub first : IsFirstIn text (Some raw)
  pub is_true : IsTrueInOrder (graph_of raw) refused
  pub told : refused ≢ refusal.NoMemory

-- why the text gives no net; running out of memory reports nothing
abbrev pub IsTextFaultIn : List ℕ → TextFault → Type 0
IsTextFaultIn text NoGraph = IsFirstIn text None
IsTextFaultIn text TooManyBlocks = most_blocks < length (blocks_of text)
IsTextFaultIn text (Refused refused) = IsRefusedIn text refused
IsTextFaultIn text NoMemory = Unit {0}
