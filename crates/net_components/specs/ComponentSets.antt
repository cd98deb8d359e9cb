-- The sets of vertices of the net that a component of the quotient graph stands for.
-- Components of a net are the classes of vertices that walks join; the copies of one are this project's own.
use Rattle.std.specs.Prelude.{ℕ, ◌≤◌}
use Rattle.integers.specs.Vectors.{Vector, minus}
use Rattle.periodic_net.specs.Graph.{Graph, Vertex, IsQuotientVertex}
use Rattle.periodic_net.specs.Split.{ClosedShift}
use Rattle.periodic_net.specs.Components.{InComponent}

-- a is the least vertex of its component
pub record IsLeast (G : Graph) (a : ℕ) : Type 0 where
  pub vertex : IsQuotientVertex G a
  pub least : (u : ℕ) → InComponent G a u → a ≤ u

-- the copy of r: the vertices of the net over the component of a whose cell is T + r but for the shift of a closed walk
pub record InCopy (G : Graph) (a : ℕ) (T : ℕ → Vector) (r : Vector) (w : Vertex) : Type 0 where
  pub over : InComponent G a w.over
  pub cell : ClosedShift G a (minus (minus w.cell (T w.over)) r)
