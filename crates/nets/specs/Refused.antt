-- Why a graph whose edges stand in any order is refused.
use Rattle.periodic_net.specs.Graph.{Graph}
use Rattle.quotient_graph.specs.Stars.{IsInOrder}
use Rattle.least_key.specs.Truths.{IsTrueOf}
use Rattle.least_key.specs.declared.refusal.Refusal.{Refusal}
use Rattle.least_key.specs.declared.refusal.Refusal.TheVariants.{NoMemory}

-- what the refusal reports is true of G with its edges in order
pub record IsTrueInOrder (G : Graph) (refusal : Refusal) : Type 0 where
  pub graph : Graph
  pub in_order : IsInOrder G graph
  pub is_true : IsTrueOf graph refusal

-- the same, if memory did not run out
abbrev pub IsRefusedBy : Graph → Refusal → Type 0
IsRefusedBy G NoMemory = Unit {0}
IsRefusedBy G refusal = IsTrueInOrder G refusal
