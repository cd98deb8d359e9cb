-- The side of a net with its key, and the answer that a table of the standard map makes.
use Rattle.std.specs.Prelude.{◌≡◌, ℕ, ◌≤◌, List, All, pos, slice_index_or, unsigned_abs}
use Rattle.integers.specs.Vectors.{Vector}
use Rattle.periodic_net.specs.Graph.{Vertex}
use Rattle.key_theory.specs.Primitive.{IsLeastMember}
use Rattle.key_theory.specs.Traversal.{axes_of, IsLeastScale}
use Rattle.quotient_graph.specs.NetClasses.{class_at}
use Rattle.least_key.specs.KeyedNets.{KeyedNet, IsKeyed}
use Rattle.standard_map.specs.LeastPairs.{IsLeastPair}
use Rattle.standard_map.specs.MapNumbers.{map_numbers, most_part, IsFirstPast}
use Rattle.standard_map.specs.Sides.{NetSide}
use Rattle.net_certificate.specs.Answers.{IsMapAnswer}
use Rattle.net_certificate.specs.declared.maps.MapAnswer.{MapAnswer}
use Rattle.net_certificate.specs.declared.maps.MapAnswer.TheVariants.{Different, Found, LongMap, WideMap}

-- S is the net with the representative of the start and the frame of its key
pub record IsSideOf (n : KeyedNet) (S : NetSide) : Type 0 where
  pub net : S.net ≡ n.placed
  pub start : ℕ
  pub pair : IsLeastPair n.classes.classes n.key start S.frame
  pub origin : IsLeastMember n.placed.graph (class_at n.classes.numbers) start S.origin
  pub scale : IsLeastScale n.classes.classes (axes_of S.frame) S.scale
  pub scale_is : S.scale ≡ unsigned_abs (slice_index_or n.key 2 (pos 0))

-- the first part past the limit; if there is none, the map with this period, these images and these rows
abbrev pub IsWritten : ℕ → ℕ → List Vertex → List Vector → MapAnswer → Type 0
IsWritten d m images rows Different = ⊥
IsWritten d m images rows (LongMap entries) = ⊥
IsWritten d m images rows (WideMap value) = IsFirstPast most_part (map_numbers d images rows) value
IsWritten d m images rows (Found map) =
    (map.m ≡ m) × (map.images ≡ images) × (map.base ≡ rows) × All (λ x. unsigned_abs x ≤ most_part) (map_numbers d images rows)

-- the answer to each two nets with one key that have these sides
abbrev pub IsAnswerOf : NetSide → NetSide → ℕ → MapAnswer → Type 0
IsAnswerOf S T room answer =
    (a b : KeyedNet) → IsKeyed a → IsKeyed b → IsSideOf a S → IsSideOf b T → a.key ≡ b.key → IsMapAnswer a b room answer
