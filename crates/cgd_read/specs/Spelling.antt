-- Edges as numbers, and their normal spelling.
use Rattle.std.specs.Prelude.{ℕ, ℤ, pos, ◌-ℤ◌, ◌≤ℤ◌, Bool, true, false, ◌||◌, ◌&&◌, ◌==◌, nat_lt}
use Rattle.std.specs.Ordering.{int_eq}
use Rattle.std.specs.Int.Signed.{lt_z}
use Rattle.integers.specs.Vectors.{vector}
use Rattle.periodic_net.specs.Graph.{Arc, arc}
use Rattle.periodic_net.specs.Limits.{most_shift}
use Rattle.cgd_read.specs.declared.edge.RawEdge.{RawEdge}

-- the edge, as an arc of a quotient graph
abbrev pub edge_of : RawEdge → Arc
edge_of e = arc e.u e.v (vector e.x e.y e.z)

-- a part of a shift: from -most_shift to most_shift
abbrev pub IsSmallPart : ℤ → Type 0
IsSmallPart x = ((pos 0 -ℤ pos most_shift) ≤ℤ x) × (x ≤ℤ pos most_shift)

-- u < v, or u = v and the first part that is not 0 is positive
abbrev pub is_forward : ℕ → ℕ → ℤ → ℤ → ℤ → Bool
is_forward u v x y z = nat_lt u v || (u == v && (lt_z (pos 0) x || (int_eq x (pos 0) && (lt_z (pos 0) y || (int_eq y (pos 0) && lt_z (pos 0) z)))))

-- an edge as it stands, or else reversed
abbrev pub spelled : Bool → ℕ → ℕ → ℤ → ℤ → ℤ → RawEdge
spelled true u v x y z = record { u = u; v = v; x = x; y = y; z = z }
spelled false u v x y z = record { u = v; v = u; x = pos 0 -ℤ x; y = pos 0 -ℤ y; z = pos 0 -ℤ z }

-- the edge from u to v in its normal spelling
abbrev pub normal : ℕ → ℕ → ℤ → ℤ → ℤ → RawEdge
normal u v x y z = spelled (is_forward u v x y z) u v x y z
