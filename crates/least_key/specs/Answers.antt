-- The answers to a list of graphs.
use Rattle.std.specs.Prelude.{◌≡◌, ◌≢◌, ◌↔◌, ℕ, ◌<◌, List, length, slice_index_or, Result, Ok, Err}
use Rattle.std.specs.List.{AllZip}
use Rattle.periodic_net.specs.Graph.{Graph}
use Rattle.quotient_graph.specs.AnyGraphs.{graph_view}
use Rattle.quotient_graph.specs.declared.any_graph.AnyGraph.{AnyGraph}
use Rattle.least_key.specs.AnyNets.{net_view}
use Rattle.least_key.specs.KeyedNets.{IsKeyed}
use Rattle.least_key.specs.Truths.{IsTrueOf}
use Rattle.least_key.specs.declared.net.Net.{Net}
use Rattle.least_key.specs.declared.refusal.Refusal.{Refusal}
use Rattle.least_key.specs.declared.refusal.Refusal.TheVariants.{NoMemory}

-- the net of the graph with its key, or a refusal that is true of the graph
abbrev pub IsAnswerTo : AnyGraph → Result Net Refusal → Type 0
IsAnswerTo g (Ok net) = ((net_view net).placed.graph ≡ graph_view g) × IsKeyed (net_view net)
IsAnswerTo g (Err refusal) = IsTrueOf (graph_view g) refusal × (refusal ≢ NoMemory)

-- each graph has its answer, at its place
abbrev pub AreAnswers : List AnyGraph → List (Result Net Refusal) → Type 0
AreAnswers graphs answers = AllZip IsAnswerTo graphs answers

-- the graph at place i is g, and its net is n
pub record IsAcceptedAt (graphs : List AnyGraph) (answers : List (Result Net Refusal)) (i : ℕ) (g : AnyGraph) (n : Net) : Type 0 where
  pub inside : i < length graphs
  pub graph : slice_index_or graphs i g ≡ g
  pub answer : slice_index_or answers i (Ok n) ≡ Ok n

-- the keys of two accepted graphs are equal if and only if their nets are the same in this sense
abbrev pub KeysTell : (Graph → Graph → Type 0) → List AnyGraph → List (Result Net Refusal) → Type 0
KeysTell Same graphs answers = (i j : ℕ) (g h : AnyGraph) (m n : Net) → IsAcceptedAt graphs answers i g m → IsAcceptedAt graphs answers j h n
    → ((net_view m).key ≡ (net_view n).key) ↔ Same (graph_view g) (graph_view h)
