-- What becomes of each item of a text of key lines.
use Rattle.std.specs.Prelude.{◌≡◌, ◌≢◌, ℕ, ◌+◌, List, [], ◌∷◌, length, option_copied}
use Rattle.periodic_net.specs.Graph.{Graph, IsGraph}
use Rattle.keyline_import.specs.Faults.{name_of_kind, number_of_kind}
use Rattle.keyline_import.specs.Items.{BodyView, Net, Faulty as FaultyView, ItemView}
use Rattle.keyline_import.specs.Keys.{graph_of_key}
use Rattle.keyline_import.specs.Rows.{KeyView}
use Rattle.keyline_import.specs.declared.item.ItemFault.{ItemFault}
use Rattle.quotient_graph.specs.Stars.{IsInOrder}
use Rattle.least_key.specs.AnyNets.{net_view}
use Rattle.least_key.specs.KeyedNets.{IsKeyed, KeyedNet}
use Rattle.least_key.specs.Truths.{IsTrueOf}
use Rattle.least_key.specs.declared.refusal.Refusal.{Refusal}
use Rattle.least_key.specs.declared.refusal.Refusal.TheVariants.{NoMemory}
use Rattle.net_report.specs.declared.outcome.Outcome.{Outcome}
use Rattle.net_report.specs.declared.outcome.OutcomeBody.{OutcomeBody}
use Rattle.net_report.specs.declared.outcome.OutcomeBody.TheVariants.{Faulty, Refused, Keyed}
use Rattle.net_report.specs.declared.outcome.Size.{Size}

-- the sizes of the graph of a key, and the number of its repeated rows
abbrev pub size_of : KeyView → Size
size_of key = record { dim = key.dim; vertices = key.vertices; edges = length key.edges; repeats = key.repeats }

-- G is the graph of a key, a quotient graph with its edges in order, and size has its sizes
pub record IsGraphOf (key : KeyView) (size : Size) (G : Graph) : Type 0 where
  pub size_is : size ≡ size_of key
  pub in_order : IsInOrder (graph_of_key key) G
  pub is_graph : IsGraph G

-- a refusal that is true of the key's graph, other than running out of memory; its vertices have no names
pub record IsRefusedAs (key : KeyView) (size : Size) (names : List (List ℕ)) (refusal : Refusal) : Type 0 where
  pub graph : Graph
  pub read : IsGraphOf key size graph
  pub no_names : names ≡ []
  pub known : refusal ≢ NoMemory
  pub is_true : IsTrueOf graph refusal

-- the key's graph has a least key, and this is its net
pub record IsKeyedAs (key : KeyView) (size : Size) (net : KeyedNet) : Type 0 where
  pub graph : Graph
  pub read : IsGraphOf key size graph
  pub net_is : net.placed.graph ≡ graph
  pub keyed : IsKeyed net

-- the line of a fault, and the number and the name of its kind
pub record IsFaultyAs (fault : ItemFault) (line number : ℕ) (kind : List ℕ) : Type 0 where
  pub line_is : line ≡ fault.line
  pub number_is : number ≡ number_of_kind fault.kind
  pub kind_is : kind ≡ name_of_kind fault.kind

-- what is reported of an item
abbrev pub IsItemBodyOf : BodyView → OutcomeBody → Type 0
IsItemBodyOf (Net key) (Keyed size net) = IsKeyedAs key size (net_view net)
IsItemBodyOf (Net key) (Refused size names refusal) = IsRefusedAs key size names refusal
IsItemBodyOf (FaultyView fault) (Faulty line number kind) = IsFaultyAs fault line number kind.now
IsItemBodyOf body told = ⊥

-- the outcome of the item with this number
pub record IsItemOutcomeOf (number : ℕ) (item : ItemView) (o : Outcome) : Type 0 where
  pub number_is : o.number ≡ number
  pub line : o.line ≡ item.line
  pub name : option_copied o.name ≡ item.name
  pub body : IsItemBodyOf item.body o.body

-- one outcome for each item, with the items numbered from this number on
abbrev pub AreItemOutcomesFrom : ℕ → List ItemView → List Outcome → Type 0
AreItemOutcomesFrom number [] [] = Unit {0}
AreItemOutcomesFrom number (item ∷ items) (o ∷ os) = IsItemOutcomeOf number item o × AreItemOutcomesFrom (number + 1) items os
AreItemOutcomesFrom number items os = ⊥
