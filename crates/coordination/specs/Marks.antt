-- Marks of the vertices of a box that were found.
use Rattle.std.specs.Prelude.{◌≡◌, ℕ, ◌<◌, ℤ, pos, ◌+ℤ◌, ◌≤ℤ◌, ◌<ℤ◌, unsigned_abs, List, [], ◌∷◌, ◌++◌, map, Contains, length, slice_index_or, slice_set, Bool}
use Rattle.std.specs.Prelude.{true, false, if◌then◌else◌}
use Rattle.coordination.specs.declared.spot.Spot.{Spot}
use Rattle.coordination.specs.declared.spot.Step.{Step}

-- the number to which a step leads
abbrev pub place_along : Spot → Step → ℤ
place_along s t = pos s.at +ℤ t.by

-- it is from 0 to n - 1
pub record IsLandingWithin (n : ℕ) (s : Spot) (t : Step) : Type 0 where
  pub low : pos 0 ≤ℤ place_along s t
  pub high : place_along s t <ℤ pos n

-- the vertex to which it leads
abbrev pub spot_along : Spot → Step → Spot
spot_along s t = record { over = t.to; at = unsigned_abs (place_along s t) }

-- those to which these steps lead
abbrev pub spots_along : Spot → List Step → List Spot
spots_along s star = map (spot_along s) star

-- number i is marked
abbrev pub is_marked : List Bool → ℕ → Bool
is_marked marks i = slice_index_or marks i false

-- the marks with that of s
abbrev pub marks_with : List Bool → Spot → List Bool
marks_with marks s = if is_marked marks s.at then marks else slice_set marks s.at true

-- what is found, with s
abbrev pub spots_with : List Bool → List Spot → Spot → List Spot
spots_with marks found s = if is_marked marks s.at then found else found ++ s ∷ []

-- the marks with those of each of these
abbrev pub all_marks : List Bool → List Spot → List Bool
all_marks marks [] = marks
all_marks marks (s ∷ ss) = all_marks (marks_with marks s) ss

-- what is found, with each of these
abbrev pub all_spots : List Bool → List Spot → List Spot → List Spot
all_spots marks found [] = found
all_spots marks found (s ∷ ss) = all_spots (marks_with marks s) (spots_with marks found s) ss

-- nothing is marked
abbrev pub IsUnmarked : List Bool → Type 0
IsUnmarked marks = (i : ℕ) → i < length marks → is_marked marks i ≡ false

-- exactly what is found is marked
pub record AreMarked (marks : List Bool) (found : List Spot) : Type 0 where
  pub within : (s : Spot) → Contains found s → s.at < length marks
  pub marked : (s : Spot) → Contains found s → is_marked marks s.at ≡ true
  pub found_at : (i : ℕ) → i < length marks → is_marked marks i ≡ true → (s : Spot) × Contains found s × (s.at ≡ i)
