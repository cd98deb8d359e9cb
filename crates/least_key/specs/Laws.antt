-- What is reported of a graph is one.
use Rattle.std.specs.Prelude.{◌≡◌, ◌≢◌}
use Rattle.periodic_net.specs.Graph.{Graph, IsGraph}
use Rattle.quotient_graph.specs.PlacedNets.{PlacedNet}
use Rattle.least_key.specs.KeyedNets.{KeyedNet, IsKeyed}
use Rattle.least_key.specs.Placings.{IsPlacedAs}
use Rattle.least_key.specs.Truths.{IsOfPlacing, IsTrueOf}
use Rattle.least_key.specs.declared.refusal.Refusal.{Refusal}
use Rattle.least_key.specs.declared.refusal.Refusal.TheVariants.{NoMemory}

-- no refusal of placing is true of a graph with a normal placement within the limits, which fractions or residues reach, but want
-- of memory
abbrev pub PlacedIsNotRefused : Type 0
PlacedIsNotRefused = (G : Graph) (p : PlacedNet) (refusal : Refusal) → IsGraph G → IsPlacedAs G p → IsOfPlacing refusal → IsTrueOf G refusal
    → refusal ≡ NoMemory

-- two refusals that are true of a graph, running out of memory aside, are one
abbrev pub OneRefusal : Type 0
OneRefusal = (G : Graph) (a b : Refusal) → IsGraph G → IsTrueOf G a → IsTrueOf G b → a ≢ NoMemory → b ≢ NoMemory → a ≡ b

-- two nets with their keys have the same placement, primitive graph, basis and key
pub record TellAlike (m n : KeyedNet) : Type 0 where
  pub placed : m.placed ≡ n.placed
  pub cell : m.cell.graph ≡ n.cell.graph
  pub basis : m.cell.basis ≡ n.cell.basis
  pub key : m.key ≡ n.key

-- what is reported of a graph with its key is one
abbrev pub OneNet : Type 0
OneNet = (m n : KeyedNet) → IsKeyed m → IsKeyed n → m.placed.graph ≡ n.placed.graph → TellAlike m n
