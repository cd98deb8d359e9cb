-- What is answered about the map between two nets with their keys, and when each answer comes.
use Rattle.std.specs.Prelude.{◌≡◌, ℕ, ◌≤◌, List, length}
use Rattle.std.proofs.Common.{subst}
use Rattle.integers.specs.Vectors.{Vector}
use Rattle.periodic_net.specs.Classes.{IsClassGraph}
use Rattle.periodic_net.specs.Graph.{Graph, Vertex}
use Rattle.periodic_net.specs.Maps.{BareIso}
use Rattle.key_theory.specs.Key.{Shape}
use Rattle.map_check.specs.Conditions.{SuitsGraphs, most_images}
use Rattle.map_check.specs.Verified.{IsVerified}
use Rattle.map_check.specs.declared.verdict.Verdict.{Verdict}
use Rattle.map_check.specs.declared.verdict.Verdict.TheVariants.{Yes}
use Rattle.quotient_graph.specs.NetClasses.{class_at}
use Rattle.least_key.specs.KeyedNets.{KeyedNet, IsKeyed}
use Rattle.standard_map.specs.MapNumbers.{HaveOtherKeys, IsLong, IsWide, IsFound}
use Rattle.net_certificate.specs.declared.maps.MapAnswer.{MapAnswer}
use Rattle.net_certificate.specs.declared.maps.MapAnswer.TheVariants.{Different, Found, LongMap, WideMap}

-- the placement and the classes of a net with its key
abbrev pub shape_of : (n : KeyedNet) → IsKeyed n → Shape n.placed.graph
shape_of n k = record {
  placement = n.placed.placement;
  stable = record {
    connected = k.settled.placed.connected;
    placement = k.settled.placed.normal;
    no_collision = k.settled.no_collision;
  };
  class_of = class_at n.classes.numbers;
  classes = n.classes.classes;
  is_classes = subst (λ (G : Graph). IsClassGraph G n.placed.placement (class_at n.classes.numbers) n.classes.classes) k.same_graph k.classes.is_classes;
}

-- the answer to two nets of these graphs: the keys differ; or the map has more images than there is room for, and this is their
-- number; or there is room, and this is the first part past the limit; or there is room, all parts are within the limit, and this is
-- the map
abbrev pub IsAnswerBy : (G H : Graph) → Shape G → Shape H → ℕ → MapAnswer → Type 0
IsAnswerBy G H g h room Different = HaveOtherKeys G H g h
IsAnswerBy G H g h room (LongMap entries) = IsLong G H g h room entries
IsAnswerBy G H g h room (WideMap value) = IsWide G H g h room value
IsAnswerBy G H g h room (Found map) = IsFound G H g h room map.m map.images map.base

-- the answer to two nets with their keys, with room for so many images
pub record IsMapAnswer (a b : KeyedNet) (room : ℕ) (answer : MapAnswer) : Type 0 where
  pub here : IsKeyed a
  pub there : IsKeyed b
  pub by : IsAnswerBy a.placed.graph b.placed.graph (shape_of a here) (shape_of b there) room answer

-- what an answer says of the infinite graphs: no bijection between the vertices joins images if and only if the vertices are joined, if the
-- nets are answered to be different; and at each other answer some bijection does
abbrev pub TellsGraphs : Graph → Graph → MapAnswer → Type 0
TellsGraphs G H Different = ¬ BareIso G H
TellsGraphs G H (LongMap entries) = BareIso G H
TellsGraphs G H (WideMap value) = BareIso G H
TellsGraphs G H (Found map) = BareIso G H

-- a map can be checked, and each true verdict on it is Yes
pub record IsPassing (G H : Graph) (m : ℕ) (images : List Vertex) (rows : List Vector) : Type 0 where
  pub suits : SuitsGraphs G H m images rows
  pub yes : (verdict : Verdict) → IsVerified G H m images rows verdict → verdict ≡ Yes

-- a map that is found passes if it has no more images than are checked
abbrev pub PassesIfFound : Graph → Graph → MapAnswer → Type 0
PassesIfFound G H (Found map) = length map.images ≤ most_images → IsPassing G H map.m map.images map.base
PassesIfFound G H Different = Unit {0}
PassesIfFound G H (LongMap entries) = Unit {0}
PassesIfFound G H (WideMap value) = Unit {0}
