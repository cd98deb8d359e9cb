-- Translations of a placed net, its classes, and the class graph.
-- Translations are those of Delgado-Friedrichs and O'Keeffe, Acta Cryst. A59 (2003) 351; the numbering of the classes
-- and the class graph are this project's own.
use Rattle.std.specs.Prelude.{◌≡◌, ◌≢◌, ◌↔◌, ℕ, zero, suc, ◌≤◌, ◌<◌, List, Contains, AllPairs}
use Rattle.integers.specs.Vectors.{Vector, plus, parts, HasDimension, IsBelow}
use Rattle.periodic_net.specs.Graph.{Graph, Arc, IsArc, IsQuotientVertex, Vertex, IsVertex, AreJoined}
use Rattle.periodic_net.specs.Maps.{IsInBox}
use Rattle.periodic_net.specs.Placement.{Placement, position, arc_vector}

-- x stands if w would stand after the move by r
abbrev pub StandsAt : Placement → Vector → Vertex → Vertex → Type 0
StandsAt p r w x = position p x ≡ plus (position p w) r

-- the move by r gives positions of the net again, and joins exactly what was joined
pub record IsTranslation (G : Graph) (p : Placement) (r : Vector) : Type 0 where
  pub dimension : HasDimension G.dimension r
  pub moves : (w : Vertex) → IsVertex G w → (x : Vertex) × IsVertex G x × StandsAt p r w x
  pub joins : (w x w' x' : Vertex) → IsVertex G w → IsVertex G x → IsVertex G w' → IsVertex G x'
      → StandsAt p r w w' → StandsAt p r x x' → AreJoined G w x ↔ AreJoined G w' x'

-- these are exactly the translations with parts from 0 to the denominator less 1, in rising order
pub record AreTranslations (G : Graph) (p : Placement) (rs : List Vector) : Type 0 where
  pub exact : (r : Vector) → Contains rs r ↔ (IsTranslation G p r × IsInBox G.dimension p.denominator r)
  pub rising : AllPairs (λ a b. IsBelow (parts 3 a) (parts 3 b)) rs

-- a translation moves a vertex over u onto one over v
pub record ShareClass (G : Graph) (p : Placement) (u v : ℕ) : Type 0 where
  pub by : Vector
  pub translation : IsTranslation G p by
  pub w : Vertex
  pub x : Vertex
  pub w_vertex : IsVertex G w
  pub x_vertex : IsVertex G x
  pub over_u : w.over ≡ u
  pub over_v : x.over ≡ v
  pub onto : StandsAt p by w x

-- class_of numbers the classes by their least members: each number below that of u has come before u
pub record IsClassNumbering (G : Graph) (p : Placement) (class_of : ℕ → ℕ) : Type 0 where
  pub positive : (u : ℕ) → IsQuotientVertex G u → 1 ≤ class_of u
  pub classes : (u v : ℕ) → IsQuotientVertex G u → IsQuotientVertex G v → (class_of u ≡ class_of v) ↔ ShareClass G p u v
  pub in_order : (u c : ℕ) → IsQuotientVertex G u → 1 ≤ c → c < class_of u
      → (v : ℕ) × (v < u) × IsQuotientVertex G v × (class_of v ≡ c)

-- an arc of a class graph: its classes, and its vector
pub record ClassArc : Type 0 where
  pub from : ℕ
  pub to : ℕ
  pub vector : Vector

-- the class graph: its dimension, its number of classes, and its arcs
pub record ClassGraph : Type 0 where
  pub dimension : ℕ
  pub count : ℕ
  pub arcs : List ClassArc

-- an arc of the net, seen from class to class
pub record Shows (p : Placement) (class_of : ℕ → ℕ) (a : Arc) (b : ClassArc) : Type 0 where
  pub from : class_of a.from ≡ b.from
  pub to : class_of a.to ≡ b.to
  pub vector : arc_vector p a ≡ b.vector

-- K is the class graph of the placed net
pub record IsClassGraph (G : Graph) (p : Placement) (class_of : ℕ → ℕ) (K : ClassGraph) : Type 0 where
  pub dimension : K.dimension ≡ G.dimension
  pub numbering : IsClassNumbering G p class_of
  pub below : (u : ℕ) → IsQuotientVertex G u → class_of u ≤ K.count
  pub last : (u : ℕ) × IsQuotientVertex G u × (class_of u ≡ K.count)
  pub arcs : (b : ClassArc) → Contains K.arcs b ↔ ((a : Arc) × IsArc G a × Shows p class_of a b)
  pub different : AllPairs (λ a b. a ≢ b) K.arcs

-- k arcs lead from class c to class e
abbrev pub LeadsIn : ClassGraph → ℕ → ℕ → ℕ → Type 0
LeadsIn K zero c e = c ≡ e
LeadsIn K (suc k) c e = (a : ClassArc) × Contains K.arcs a × (a.from ≡ c) × LeadsIn K k a.to e

-- k is the distance of the classes c and e
pub record IsDistance (K : ClassGraph) (c e k : ℕ) : Type 0 where
  pub leads : LeadsIn K k c e
  pub least : (j : ℕ) → LeadsIn K j c e → k ≤ j
