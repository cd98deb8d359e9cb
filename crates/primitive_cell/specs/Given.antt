-- Edges of a primitive graph, and the arcs of the class graph that give them.
use Rattle.std.specs.Prelude.{◌≡◌, ◌↔◌, ℕ, List, Contains, AllPairs}
use Rattle.integers.specs.Vectors.{Vector, plus, minus, parts, combination, HasDimension, IsBelow}
use Rattle.periodic_net.specs.Classes.{ClassArc}
use Rattle.periodic_net.specs.Graph.{Arc, IsNormalSpelling}
use Rattle.periodic_net.specs.Placement.{Placement, base}
use Rattle.key_theory.specs.Primitive.{edge_label}

-- the arc b starts at the representative of its tail; so far is it from the representative of its head to the end
abbrev pub move_of : Placement → (ℕ → ℕ) → ClassArc → Vector
move_of p first b = minus (plus b.vector (base p (first b.from))) (base p (first b.to))

-- e leads between the classes of b, and its shift, in the basis, is that move
pub record IsGivenBy (d : ℕ) (p : Placement) (first : ℕ → ℕ) (basis : List Vector) (b : ClassArc) (e : Arc) : Type 0 where
  pub from : e.from ≡ b.from
  pub to : e.to ≡ b.to
  pub dimension : HasDimension d e.shift
  pub shift : combination (parts 3 e.shift) basis ≡ move_of p first b

-- exactly the edges in normal spelling that the arcs in Q give, in rising order
pub record AreGivenEdges (d : ℕ) (p : Placement) (first : ℕ → ℕ) (basis : List Vector) (Q : ClassArc → Type 0) (es : List Arc) : Type 0 where
  pub exact : (e : Arc) → Contains es e ↔ (IsNormalSpelling e × ((b : ClassArc) × Q b × IsGivenBy d p first basis b e))
  pub rising : AllPairs (λ e f. IsBelow (edge_label e) (edge_label f)) es
