-- The theorems on the answers, as statements.
use Rattle.std.specs.Prelude.{◌≡◌, ℕ, ◌≤◌, List, length}
use Rattle.integers.specs.Vectors.{Vector}
use Rattle.periodic_net.specs.Graph.{Graph, IsGraph, Vertex}
use Rattle.periodic_net.specs.Limits.{most_vertices}
use Rattle.key_theory.specs.Key.{Shape}
use Rattle.map_check.specs.Conditions.{most_images}
use Rattle.least_key.specs.KeyedNets.{KeyedNet}
use Rattle.standard_map.specs.MapNumbers.{IsFound}
use Rattle.net_certificate.specs.Answers.{IsMapAnswer, IsPassing, TellsGraphs}
use Rattle.net_certificate.specs.declared.maps.MapAnswer.{MapAnswer}

-- two nets have one answer by a room at most
abbrev pub OneMapAnswer : Type 0
OneMapAnswer = (a b : KeyedNet) (room : ℕ) (s t : MapAnswer) → IsMapAnswer a b room s → IsMapAnswer a b room t → s ≡ t

-- a map that is found passes the check, if it has no more images than are checked
abbrev pub FoundMapsPass : Type 0
FoundMapsPass = (G H : Graph) (g : Shape G) (h : Shape H) (room m : ℕ) (images : List Vertex) (rows : List Vector) → IsGraph G → IsGraph H
    → H.vertices ≤ most_vertices → IsFound G H g h room m images rows → length images ≤ most_images → IsPassing G H m images rows

-- the answer to two nets tells whether their infinite graphs are isomorphic
abbrev pub AnswersTellGraphs : Type 0
AnswersTellGraphs = (a b : KeyedNet) (room : ℕ) (answer : MapAnswer) → IsMapAnswer a b room answer → TellsGraphs a.placed.graph b.placed.graph answer
