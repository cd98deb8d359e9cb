-- What is reported of the components of a net, and whether it is accepted.
use Rattle.std.specs.Prelude.{◌≡◌, ◌≢◌, ◌⊎◌, ◌≤◌, ℕ, length, All, Bool, true, false, List, ◌++◌, Result, Ok, Err}
use Rattle.std.specs.List.{list_all}
use Rattle.integers.specs.Lists.{AreMatched}
use Rattle.periodic_net.specs.Graph.{Graph, IsGraph}
use Rattle.periodic_net.specs.Limits.{most_vertices}
use Rattle.quotient_graph.specs.AnyGraphs.{graph_view}
use Rattle.least_key.specs.Answers.{IsAnswerTo}
use Rattle.least_key.specs.declared.net.Net.{Net}
use Rattle.least_key.specs.declared.refusal.Refusal.{Refusal}
use Rattle.net_components.specs.Faults.{IsPartFault, no_memory}
use Rattle.net_components.specs.Parts.{AreParts}
use Rattle.net_components.specs.declared.fault.PartFault.{PartFault}
use Rattle.net_components.specs.declared.parts.Part.{Part}
use Rattle.block_answers.specs.Texts.{part_text, parts_from, parts_text, part_fault_text}

-- the net of the part's graph with its key, or a refusal that is true of that graph
abbrev pub IsAnswerOf : Part → Result Net Refusal → Type 0
IsAnswerOf p answer = IsAnswerTo p.graph answer

-- the part has a key
abbrev pub has_key : Result Net Refusal → Bool
has_key (Ok net) = true
has_key (Err refused) = false

-- each vertex of a part has a name, and each vertex of its graph is one of these
pub record IsNamedPart (names : List (List ℕ)) (p : Part) : Type 0 where
  pub named : All (λ u. (1 ≤ u) × (u ≤ length names)) p.vertices
  pub count : length p.vertices ≡ (graph_view p.graph).vertices
  pub few : length p.vertices ≤ most_vertices
  pub is_graph : IsGraph (graph_view p.graph)

-- what is reported of the part with this number, put last in a text, and whether it has a key
pub record IsPartTold (names : List (List ℕ)) (number : ℕ) (p : Part) (keyed : Bool) (old new : List ℕ) : Type 0 where
  pub answer : Result Net Refusal
  pub is_answer : IsAnswerOf p answer
  pub keyed_is : keyed ≡ has_key answer
  pub text : new ≡ old ++ part_text names number p answer

-- what is reported of these parts, numbered from this number on, and whether each has a key
pub record ArePartsToldFrom (names : List (List ℕ)) (number : ℕ) (ps : List Part) (accepted : Bool) (old new : List ℕ) : Type 0 where
  pub answers : List (Result Net Refusal)
  pub are_answers : AreMatched IsAnswerOf ps answers
  pub all : accepted ≡ list_all has_key answers
  pub text : new ≡ old ++ parts_from names number ps answers

-- all parts of the net are reported, each with its answer; the net is accepted if each has a key
pub record ArePartsTold (G : Graph) (names : List (List ℕ)) (accepted : Bool) (lines : List ℕ) : Type 0 where
  pub ps : List Part
  pub are_parts : AreParts G ps
  pub answers : List (Result Net Refusal)
  pub are_answers : AreMatched IsAnswerOf ps answers
  pub all : accepted ≡ list_all has_key answers
  pub text : lines ≡ parts_text names ps answers

-- the fault of the graph is reported; the net is not accepted
pub record IsFaultTold (G : Graph) (names : List (List ℕ)) (accepted : Bool) (lines : List ℕ) : Type 0 where
  pub told : PartFault
  pub is_fault : IsPartFault G told
  pub some : told ≢ no_memory
  pub refused : accepted ≡ false
  pub text : lines ≡ part_fault_text names G.dimension told

-- these lines are reported of the components of G, whose vertices have these names, and so it is accepted or not
abbrev pub AreComponentsTold : Graph → List (List ℕ) → Bool → List ℕ → Type 0
AreComponentsTold G names accepted lines = ArePartsTold G names accepted lines ⊎ IsFaultTold G names accepted lines
