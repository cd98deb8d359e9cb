-- Graphs whose keys are reported.
use Rattle.std.specs.Prelude.{◌≡◌}
use Rattle.periodic_net.specs.Graph.{Graph, IsGraph}
use Rattle.key_theory.specs.Key.{IsKeyable}
use Rattle.barycentre.specs.Reached.{IsReachable}
use Rattle.least_key.specs.KeyedNets.{KeyedNet, IsKeyed}
use Rattle.least_key.specs.Truths.{IsTrueOf}
use Rattle.least_key.specs.declared.refusal.Refusal.{Refusal}
use Rattle.least_key.specs.declared.refusal.Refusal.TheVariants.{NoMemory}

-- the net of G is connected and stable, its placement and its key work are within the limits, and fractions or residues reach it
pub record IsCertain (G : Graph) : Type 0 where
  pub keyable : IsKeyable G
  pub reached : IsReachable G

-- no refusal is true of a certain graph but running out of memory
abbrev pub CertainIsNotRefused : Type 0
CertainIsNotRefused = (G : Graph) (refusal : Refusal) → IsGraph G → IsCertain G → IsTrueOf G refusal → refusal ≡ NoMemory

-- a graph that has got its key is certain
abbrev pub KeyedIsCertain : Type 0
KeyedIsCertain = (n : KeyedNet) → IsKeyed n → IsCertain n.placed.graph
