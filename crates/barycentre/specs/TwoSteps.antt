-- What the two solutions modulo m, one after the other, give.
use Rattle.std.specs.Prelude.{◌≡◌, ℕ, ◌<◌, ◌≤◌, ◌+◌, ◌*◌, ℤ, pos, ◌+ℤ◌, ◌*ℤ◌, unsigned_abs}
use Rattle.integers.specs.Staircase.{part}
use Rattle.periodic_net.specs.Graph.{Graph, IsGraph, IsQuotientVertex}
use Rattle.periodic_net.specs.Placement.{Placement, base, IsNormalPlacement}
use Rattle.exact.specs.Ratio.{whole}
use Rattle.elimination.specs.Equations.{IsSolution, IsOnlySolution}
use Rattle.elimination.specs.RightHand.{IsSolutionWith}
use Rattle.residue.specs.Residues.{IsResidue}
use Rattle.residue.specs.Reconstruction.{IsReconstruction}
use Rattle.barycentre.specs.Gains.{gains, shifts}
use Rattle.barycentre.specs.Recovery.{IsLowest}

-- in coordinate c, s is the only solution modulo m, m·left is what is left of its equations, and t solves them for what is left
pub record AreTwoSteps (m : ℕ) (G : Graph) (c : ℕ) (s t r : ℕ → ℕ) (left : ℕ → ℤ) : Type 0 where
  pub solution : IsSolution m G c (λ u. whole (pos (s u)))
  pub only : IsOnlySolution m G c
  pub origin : s 1 ≡ 0
  pub rest : (u : ℕ) → IsQuotientVertex G u → gains G (λ v. pos (s v)) u +ℤ shifts G (part c) u ≡ pos m *ℤ left u
  pub right : (u : ℕ) → IsQuotientVertex G u → IsResidue m (left u) (r u)
  pub next : IsSolutionWith m G (λ u. whole (pos (r u))) (λ u. whole (pos (t u)))

-- each position of the normal placement, in lowest terms, is the reconstruction of s + m·t modulo m·m
abbrev pub TwoStepsRecover : Type 0
TwoStepsRecover = (m : ℕ) → 2 ≤ m → (G : Graph) → IsGraph G → (c : ℕ) → c < 3 → (s t r : ℕ → ℕ) (left : ℕ → ℤ) → AreTwoSteps m G c s t r left
    → (P : Placement) → IsNormalPlacement G P → (bound : ℕ) → P.denominator ≤ bound → (u : ℕ) → IsQuotientVertex G u → unsigned_abs (part c (base P u)) ≤ bound
    → (num : ℤ) (den : ℕ) → IsLowest (part c (base P u)) P.denominator num den → IsReconstruction (s u + m * t u) (m * m) bound num den
