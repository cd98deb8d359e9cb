-- Closed walks, by their shifts and the images of these.
use Rattle.std.specs.Prelude.{◌≡◌, ◌≢◌, ℕ, ◌==◌, ℤ, pos, List, [], ◌∷◌, All, Contains, if◌then◌else◌}
use Rattle.integers.specs.Bases.{Base, base_sum}
use Rattle.integers.specs.Vectors.{Vector, zero_vector, up_vector, triple_product, HasDimension, IsWithin}
use Rattle.integers.specs.Coordinates.{IsCoordinate}
use Rattle.periodic_net.specs.Graph.{Vertex}
use Rattle.periodic_net.specs.Limits.{most_closed}
use Rattle.standard_map.specs.StandardMaps.{AreCellImages, HasNoThird}
use Rattle.standard_map.specs.CellBounds.{most_turn, Carries}
use Rattle.standard_map.specs.Ends.{End, no_end}
use Rattle.standard_map.specs.Sides.{NetSide, IsStandardBy}

-- the first end over u
abbrev pub end_over : List End → ℕ → End
end_over [] u = no_end
end_over (e ∷ es) u = if e.over == u then e else end_over es u

-- the shift of the walk that was found to u
abbrev pub shift_over : List End → ℕ → Vector
shift_over es u = (end_over es u).shift

-- the shift of a closed walk, and what it is carried to
pub record Turn : Type 0 where
  pub shift : Vector
  pub image : Vector

-- it is carried so by the images of the cells under the standard map
pub record IsTurn (S T : NetSide) (t : Turn) : Type 0 where
  pub carried : (map : Vertex → Vertex) → IsStandardBy S T map → (C : Base) → AreCellImages S.net.graph T.net.graph T.net.placement map C
      → base_sum C t.shift ≡ t.image
  pub shift : IsWithin most_closed t.shift
  pub image : IsWithin most_turn t.image
  pub dimension : HasDimension S.net.graph.dimension t.shift

-- a linear reading that is 0 at all of the shifts is 0 at each vector of the dimension
abbrev pub AreFull : ℕ → List Turn → Type 0
AreFull d ts = (c : Vector → ℤ) → IsCoordinate c → All (λ t. c t.shift ≡ pos 0) ts → (k : Vector) → HasDimension d k → c k ≡ pos 0

-- one of the turns has this shift and this image
abbrev pub AreTurn : List Turn → Vector → Vector → Type 0
AreTurn ts shift image = Contains ts (record { shift = shift; image = image })

-- three independent shifts and what they are carried to are turns; in dimension 2 the third shift is (0, 0, 1), with the image 0
pub record AreIndependentTurns (d : ℕ) (ts : List Turn) (shifts images : Base) : Type 0 where
  pub some : triple_product shifts.first shifts.second shifts.third ≢ pos 0
  pub first : AreTurn ts shifts.first images.first
  pub second : AreTurn ts shifts.second images.second
  pub up : d ≡ 2 → (shifts.third ≡ up_vector) × (images.third ≡ zero_vector)
  pub third : d ≢ 2 → AreTurn ts shifts.third images.third

-- each standard map that carries the cells to C carries these independent shifts to these images
pub record AreCarried (S T : NetSide) (shifts images : Base) : Type 0 where
  pub some : triple_product shifts.first shifts.second shifts.third ≢ pos 0
  pub first : IsWithin most_closed shifts.first
  pub second : IsWithin most_closed shifts.second
  pub third : IsWithin most_closed shifts.third
  pub first_image : IsWithin most_turn images.first
  pub second_image : IsWithin most_turn images.second
  pub third_image : IsWithin most_turn images.third
  pub carried : (map : Vertex → Vertex) → IsStandardBy S T map → (C : Base) → AreCellImages S.net.graph T.net.graph T.net.placement map C
      → HasNoThird S.net.graph.dimension C → Carries C shifts images

-- C is what the cells are carried to by each standard map of the two sides
abbrev pub AreImageCells : NetSide → NetSide → Base → Type 0
AreImageCells S T C = (map : Vertex → Vertex) → IsStandardBy S T map
    → AreCellImages S.net.graph T.net.graph T.net.placement map C × HasNoThird S.net.graph.dimension C
