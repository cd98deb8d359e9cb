-- Images and their numbers, as the code finds them.
use Rattle.std.specs.Prelude.{◌≡◌, ◌⊎◌, ℕ, ◌*◌, ◌^◌, ◌<◌, ◌≤◌, ◌<ℤ◌, ◌≤ℤ◌, pos, List, All, length, slice_index_or}
use Rattle.integers.specs.Bases.{Base, base_sum}
use Rattle.integers.specs.Vectors.{Vector, zero_vector, plus, times, HasDimension, IsWithin}
use Rattle.periodic_net.specs.Graph.{Vertex, vertex, moved}
use Rattle.periodic_net.specs.Maps.{PeriodicMap, IsInBox}
use Rattle.sublattice.specs.Sublattices.{base_of}
use Rattle.vecdim.specs.Stairs.{Stairs}
use Rattle.map_check.specs.Layouts.{box_size}
use Rattle.map_check.specs.Numbers.{IsImageNumber}
use Rattle.map_check.specs.Conditions.{most_period, most_images, most_part, IsShift}

-- the image at place i
abbrev pub image_at : List Vertex → ℕ → Vertex
image_at images i = slice_index_or images i (vertex 0 zero_vector)

-- the first n numbers are those of the first n images, up to the lattice
pub record AreNumbersOf (d : ℕ) (S : Stairs) (images : List Vertex) (numbers : List ℕ) (n : ℕ) : Type 0 where
  pub count : length numbers ≡ n
  pub each : (i : ℕ) → i < n → IsImageNumber d S (image_at images i) (slice_index_or numbers i 0)

-- x is y, moved by a whole combination of the shifts
pub record IsCopy (d : ℕ) (b : Base) (x y : Vertex) : Type 0 where
  pub k : Vector
  pub dimension : HasDimension d k
  pub is : x ≡ moved y (base_sum b k)

-- no image before place n is an earlier one, moved so
abbrev pub AreNoCopies : ℕ → Base → List Vertex → ℕ → Type 0
AreNoCopies d b images n =
    (i j : ℕ) → i < j → j < n → IsCopy d b (image_at images j) (image_at images i) → ⊥

-- the image at place j is the first that is an earlier one, moved so
pub record IsFirstCopy (d : ℕ) (b : Base) (images : List Vertex) (j : ℕ) : Type 0 where
  pub inside : j < length images
  pub earlier : ℕ
  pub before : earlier < j
  pub copy : IsCopy d b (image_at images j) (image_at images earlier)
  pub none : AreNoCopies d b images j

-- t is r and m times k, and each part of r is from 0 to below m
pub record IsSplit (m : ℕ) (t r k : Vector) : Type 0 where
  pub low : (pos 0 ≤ℤ r.x) × (pos 0 ≤ℤ r.y) × (pos 0 ≤ℤ r.z)
  pub high : (r.x <ℤ pos m) × (r.y <ℤ pos m) × (r.z <ℤ pos m)
  pub sum : t ≡ plus r (times (pos m) k)

-- the shift s is a cell of the box and m times the steps, which are small
pub record IsCarried (m : ℕ) (s rest steps : Vector) : Type 0 where
  pub split : IsSplit m s rest steps
  pub small : IsWithin (2 ^ 19) steps

-- three small shifts
pub record IsSmallBase (b : Base) : Type 0 where
  pub first : IsWithin most_part b.first
  pub second : IsWithin most_part b.second
  pub third : IsWithin most_part b.third

-- they are these shifts
pub record AreSmallRows (rows : List Vector) (b : Base) : Type 0 where
  pub same : b ≡ base_of rows
  pub small : IsSmallBase b

-- x is the image of w: w lies m·k further than a cell r of the box, and x as many shifts further than the image there
pub record IsImageOf (d : ℕ) (M : PeriodicMap) (w x : Vertex) : Type 0 where
  pub r : Vector
  pub k : Vector
  pub box : IsInBox d M.m r
  pub dimension : HasDimension d k
  pub cell : w.cell ≡ plus r (times (pos M.m) k)
  pub is : x ≡ moved (M.image w.over r) (base_sum M.base k)

-- the period, the images and the shifts are within the limits
pub record IsSmallTable (d m : ℕ) (images : List Vertex) (rows : List Vector) : Type 0 where
  pub two_or_three : (d ≡ 2) ⊎ (d ≡ 3)
  pub period_from : 1 ≤ m
  pub period_to : m ≤ most_period
  pub few : length images ≤ most_images
  pub each_image : All (λ x. IsWithin most_part x.cell) images
  pub rows_count : length rows ≡ d
  pub each_row : All (IsShift d) rows

-- the images of the vertices over u in the box stand in the list
pub record HasImages (d m : ℕ) (images : List Vertex) (u : ℕ) : Type 0 where
  pub from : 1 ≤ u
  pub to : u * box_size d m ≤ length images
