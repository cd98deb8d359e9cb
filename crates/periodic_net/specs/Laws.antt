-- The theorems on periodic nets, as statements.
use Rattle.std.specs.Prelude.{ℤ, ◌≡◌, ◌≢◌, ◌↔◌, ℕ, ◌≤◌, pos, ◌*ℤ◌, ◌≤ℤ◌, length, AllPairs}
use Rattle.integers.specs.Vectors.{Vector, zero_vector, plus, minus, opposite, times, HasDimension}
use Rattle.periodic_net.specs.Graph.{Graph, IsGraph, arcs, IsQuotientVertex, Vertex, IsVertex, IsConnected}
use Rattle.periodic_net.specs.Split.{Split, IsSplit}
use Rattle.periodic_net.specs.Placement.{Placement, base, position, IsBarycentric, IsNormalPlacement, IsTranslate, HasNoCollision, IsStablePlacement, IsStable}
use Rattle.integers.specs.Bases.{Base, base_sum}
use Rattle.periodic_net.specs.Maps.{IsPeriodic, Iso, PeriodicMap, IsMapTable, IsDrawnBy}
use Rattle.periodic_net.specs.Harmonic.{Repeats, IsNetHarmonic, IsGentle, GrowsBy}
use Rattle.periodic_net.specs.Classes.{StandsAt, IsTranslation, ShareClass, ClassGraph, IsClassGraph}
use Rattle.periodic_net.specs.Correspondence.{CarriesClassGraph}

-- a split shows that the net is not connected
abbrev pub SplitsRefute : Type 0
SplitsRefute = (G : Graph) (S : Split) → IsGraph G → IsSplit G S → ¬ IsConnected G

-- no arc stands twice among the arcs of a graph
abbrev pub ArcsStandOnce : Type 0
ArcsStandOnce = (G : Graph) → IsGraph G → AllPairs (λ a b. a ≢ b) (arcs G)

-- in a net without collisions a position fixes its vertex
abbrev pub PositionsTell : Type 0
PositionsTell = (G : Graph) (p : Placement) → HasNoCollision G p → (w x : Vertex) → IsVertex G w → IsVertex G x → position p w ≡ position p x → w ≡ x

-- each net is isomorphic to itself, what is isomorphic to it is so the other way, and what follows one isomorphism by another is one
pub record IsomorphismIsEquivalence : Type 0 where
  pub reflexive : (G : Graph) → Iso G G
  pub symmetric : (G H : Graph) → Iso G H → Iso H G
  pub transitive : (G H K : Graph) → Iso G H → Iso H K → Iso G K

-- two barycentric placements of a connected net are translates of each other, and a translate of one is barycentric
pub record BarycentricPlacementsTranslate : Type 0 where
  pub translates : (G : Graph) → IsGraph G → IsConnected G → (p q : Placement) → IsBarycentric G p → IsBarycentric G q → IsTranslate G p q
  pub barycentric : (G : Graph) → IsGraph G → (p q : Placement) → IsBarycentric G p → 1 ≤ q.denominator → length q.at ≡ G.vertices
      → ((u : ℕ) → IsQuotientVertex G u → HasDimension G.dimension (base q u)) → IsTranslate G p q → IsBarycentric G q

-- two normal placements of a connected net are equal, vertex by vertex
abbrev pub NormalPlacementIsOne : Type 0
NormalPlacementIsOne = (G : Graph) → IsGraph G → IsConnected G → (p q : Placement) → IsNormalPlacement G p → IsNormalPlacement G q
    → (p.denominator ≡ q.denominator) × ((u : ℕ) → IsQuotientVertex G u → base p u ≡ base q u)

-- a net with a barycentric placement has a normal one
abbrev pub NormalPlacementExists : Type 0
NormalPlacementExists = (G : Graph) → IsGraph G → (p : Placement) → IsBarycentric G p → (q : Placement) × IsNormalPlacement G q

-- a map with a period m and shifts B is affine on positions: m·D·q(map w) - D'·(the sum of p(w)_i·B_i) is one vector
-- for all vertices w, if p is in units of 1/D and q in units of 1/D'
abbrev pub IsAffineOn : (G H : Graph) → Placement → Placement → (Vertex → Vertex) → Type 0
IsAffineOn G H p q map = (m : ℕ) (b : Base) → IsPeriodic G H map m b → (w x : Vertex) → IsVertex G w → IsVertex G x
    → minus (times (pos m *ℤ pos p.denominator) (position q (map w))) (times (pos q.denominator) (base_sum b (position p w)))
    ≡ minus (times (pos m *ℤ pos p.denominator) (position q (map x))) (times (pos q.denominator) (base_sum b (position p x)))

-- an isomorphism of connected nets is affine on barycentric positions, and so is the map back
pub record IsomorphismsAreAffine : Type 0 where
  pub there : (G H : Graph) → IsGraph G → IsGraph H → IsConnected G → (e : Iso G H)
      → (p q : Placement) → IsBarycentric G p → IsBarycentric H q → IsAffineOn G H p q e.there
  pub back : (G H : Graph) → IsGraph G → IsGraph H → IsConnected G → (e : Iso G H)
      → (p q : Placement) → IsBarycentric G p → IsBarycentric H q → IsAffineOn H G q p e.back

-- what is isomorphic to a connected net is connected, and what is isomorphic to a stable one is stable
pub record IsomorphismsKeep : Type 0 where
  pub connected : (G H : Graph) → IsGraph G → Iso G H → IsConnected G → IsConnected H
  pub stable : (G H : Graph) → IsGraph G → IsGraph H → Iso G H → IsStable G → IsStable H

-- without collisions the translations are a group, which holds the whole shifts
pub record TranslationsAreGroup : Type 0 where
  pub zero : (G : Graph) (p : Placement) → HasNoCollision G p → IsTranslation G p zero_vector
  pub sums : (G : Graph) (p : Placement) (r s : Vector) → IsTranslation G p r → IsTranslation G p s → IsTranslation G p (plus r s)
  pub opposites : (G : Graph) (p : Placement) → HasNoCollision G p → (r : Vector) → IsTranslation G p r → IsTranslation G p (opposite r)
  pub shifts : (G : Graph) (p : Placement) → HasNoCollision G p → (k : Vector) → HasDimension G.dimension k → IsTranslation G p (times (pos p.denominator) k)

-- so to share a class is an equivalence
pub record ClassesAreEquivalence : Type 0 where
  pub reflexive : (G : Graph) (p : Placement) → HasNoCollision G p → (u : ℕ) → IsQuotientVertex G u → ShareClass G p u u
  pub symmetric : (G : Graph) (p : Placement) → HasNoCollision G p → (u v : ℕ) → ShareClass G p u v → ShareClass G p v u
  pub transitive : (G : Graph) (p : Placement) → HasNoCollision G p → (u v t : ℕ) → ShareClass G p u v → ShareClass G p v t → ShareClass G p u t

-- s moves the images as r moves the vertices
abbrev pub MovesAlike : (G : Graph) → Placement → Placement → (Vertex → Vertex) → Vector → Vector → Type 0
MovesAlike G p q there r s = (w x : Vertex) → IsVertex G w → IsVertex G x → StandsAt p r w x → StandsAt q s (there w) (there x)

-- an isomorphism of stable nets carries translations to translations, classes to classes and the class graph, arc by arc, to the
-- class graph; and so does the map back
pub record IsomorphismsCarry : Type 0 where
  pub translations : (G H : Graph) (p q : Placement) → IsGraph G → IsGraph H → IsStablePlacement G p → IsStablePlacement H q → (e : Iso G H)
      → (r : Vector) → IsTranslation G p r → (s : Vector) × IsTranslation H q s × MovesAlike G p q e.there r s
  pub translations_back : (G H : Graph) (p q : Placement) → IsGraph G → IsGraph H → IsStablePlacement G p → IsStablePlacement H q → (e : Iso G H)
      → (s : Vector) → IsTranslation H q s → (r : Vector) × IsTranslation G p r × MovesAlike H q p e.back s r
  pub classes : (G H : Graph) (p q : Placement) → IsGraph G → IsGraph H → IsStablePlacement G p → IsStablePlacement H q → (e : Iso G H)
      → (w x : Vertex) → IsVertex G w → IsVertex G x → ShareClass G p w.over x.over ↔ ShareClass H q (e.there w).over (e.there x).over
  pub class_graphs : (G H : Graph) (p q : Placement) → IsGraph G → IsGraph H → IsStablePlacement G p → IsStablePlacement H q → (e : Iso G H)
      → (class_of class_of' : ℕ → ℕ) (K L : ClassGraph) → IsClassGraph G p class_of K → IsClassGraph H q class_of' L
      → CarriesClassGraph G H e class_of class_of' K L

-- the maximum principle: in a connected net a periodic function that is at each vertex the mean over its neighbours is constant
abbrev pub MaximumPrinciple : Type 0
MaximumPrinciple = (G : Graph) → IsGraph G → IsConnected G → (m : ℕ) → 1 ≤ m → (F : Vertex → ℤ) → Repeats G m F → IsNetHarmonic G F
    → (w x : Vertex) → IsVertex G w → IsVertex G x → F w ≡ F x

-- a function that is bounded above needs no period: in a connected net it is constant if it is at each vertex the mean over its neighbours
abbrev pub BoundedHarmonicIsConstant : Type 0
BoundedHarmonicIsConstant = (G : Graph) → IsGraph G → IsConnected G → (F : Vertex → ℤ) (most : ℤ) → ((w : Vertex) → IsVertex G w → F w ≤ℤ most)
    → IsNetHarmonic G F → (w x : Vertex) → IsVertex G w → IsVertex G x → F w ≡ F x

-- in a connected net a whole-numbered function that is at each vertex the mean over its neighbours, and changes by n at most along each
-- edge, grows alike from cell to cell
abbrev pub GentleHarmonicIsAffine : Type 0
GentleHarmonicIsAffine = (G : Graph) → IsGraph G → IsConnected G → (F : Vertex → ℤ) (n : ℕ) → IsGentle G n F → IsNetHarmonic G F
    → (a : Vector) × GrowsBy G F a

-- a periodic map as a function with a period and as a table: each table writes down one map on the vertices, which has its period,
-- and each function with a period is written down by the table of its values
pub record TablesAreMaps : Type 0 where
  pub drawn : (G H : Graph) (M : PeriodicMap) → IsMapTable G H M → (f : Vertex → Vertex) × IsDrawnBy G M f × IsPeriodic G H f M.m M.base
  pub once : (G H : Graph) (M : PeriodicMap) (f g : Vertex → Vertex) → IsMapTable G H M → IsDrawnBy G M f → IsDrawnBy G M g → (w : Vertex) → IsVertex G w
      → f w ≡ g w
  pub written : (G H : Graph) (f : Vertex → Vertex) (m : ℕ) (b : Base) → IsGraph G → IsPeriodic G H f m b
      → (M : PeriodicMap) × IsMapTable G H M × (M.m ≡ m) × (M.base ≡ b) × IsDrawnBy G M f
