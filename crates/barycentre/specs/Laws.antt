-- The theorem on a step of Dixon's lifting (Numer. Math. 40 (1982) 137-141), as a statement.
use Rattle.std.specs.Prelude.{◌≡◌, ℕ, ◌≤◌, ◌*◌, ℤ, pos, ◌+ℤ◌, ◌-ℤ◌, ◌*ℤ◌}
use Rattle.std.specs.Int.{IsGcd}
use Rattle.integers.specs.Divisors.{DividesInteger}
use Rattle.integers.specs.Vectors.{Vector}
use Rattle.integers.specs.Coordinates.{IsCoordinate}
use Rattle.periodic_net.specs.Graph.{Graph, IsGraph, IsQuotientVertex}
use Rattle.periodic_net.specs.Placement.{Placement, base, IsNormalPlacement}
use Rattle.barycentre.specs.Gains.{gains, shifts, Solves, HasOnlyZero}

-- s solves the equations modulo m, what is left of them is m·left, and t solves them for what is left
pub record IsLift (m : ℕ) (G : Graph) (c : Vector → ℤ) (s left t : ℕ → ℤ) : Type 0 where
  pub first : s 1 ≡ pos 0
  pub rest : (u : ℕ) → IsQuotientVertex G u → 2 ≤ u → gains G s u +ℤ shifts G c u ≡ pos m *ℤ left u
  pub next : Solves m G left t

-- the normal denominator is coprime to m; s + m·t is the only solution modulo m·m, and the denominator times it is the placement
pub record LiftingGivesPlacement : Type 0 where
  pub coprime : (m : ℕ) → 1 ≤ m → (G : Graph) → IsGraph G → HasOnlyZero m G → (P : Placement) → IsNormalPlacement G P → IsGcd P.denominator m 1
  pub square : (m : ℕ) → 1 ≤ m → (G : Graph) → IsGraph G → HasOnlyZero m G → HasOnlyZero (m * m) G
  pub solves : (m : ℕ) (G : Graph) → IsGraph G → (c : Vector → ℤ) → IsCoordinate c → (s left t : ℕ → ℤ) → IsLift m G c s left t
      → Solves (m * m) G (shifts G c) (λ u. s u +ℤ pos m *ℤ t u)
  pub placement : (m : ℕ) (G : Graph) → IsGraph G → HasOnlyZero m G → (P : Placement) → IsNormalPlacement G P → (c : Vector → ℤ) → IsCoordinate c
      → (x : ℕ → ℤ) → Solves m G (shifts G c) x → (u : ℕ) → IsQuotientVertex G u → DividesInteger m (pos P.denominator *ℤ x u -ℤ c (base P u))
