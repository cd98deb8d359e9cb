-- Harmonic functions: functions on the vertices of a net that are at each vertex the mean over its neighbours. How they may change.
use Rattle.std.specs.Prelude.{◌≡◌, ℕ, ◌≤◌, ℤ, pos, ◌+ℤ◌, ◌-ℤ◌, unsigned_abs, List}
use Rattle.integers.specs.Lists.{total}
use Rattle.integers.specs.Vectors.{Vector, plus, times, dot, HasDimension}
use Rattle.periodic_net.specs.Graph.{Graph, Arc, arcs_from, Vertex, vertex, moved, IsVertex, AreJoined}

-- what F gains from w along these arcs, together
abbrev pub net_gain : (Vertex → ℤ) → Vertex → List Arc → ℤ
net_gain F w as' = total (λ a. F (vertex a.to (plus w.cell a.shift)) -ℤ F w) as'

-- F is at each vertex of the net the mean over its neighbours
abbrev pub IsNetHarmonic : Graph → (Vertex → ℤ) → Type 0
IsNetHarmonic G F = (w : Vertex) → IsVertex G w → net_gain F w (arcs_from G w.over) ≡ pos 0

-- F repeats with period m
abbrev pub Repeats : Graph → ℕ → (Vertex → ℤ) → Type 0
Repeats G m F = (w : Vertex) (k : Vector) → IsVertex G w → HasDimension G.dimension k → F (moved w (times (pos m) k)) ≡ F w

-- F changes by n at most along each edge
abbrev pub IsGentle : Graph → ℕ → (Vertex → ℤ) → Type 0
IsGentle G n F = (w x : Vertex) → IsVertex G w → IsVertex G x → AreJoined G w x → unsigned_abs (F x -ℤ F w) ≤ n

-- F grows alike from cell to cell: k cells further it is a·k greater
abbrev pub GrowsBy : Graph → (Vertex → ℤ) → Vector → Type 0
GrowsBy G F a = (w : Vertex) (k : Vector) → IsVertex G w → HasDimension G.dimension k → F (moved w k) ≡ F w +ℤ dot a k
