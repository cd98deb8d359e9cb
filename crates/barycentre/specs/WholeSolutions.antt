-- Solutions that are whole numbers modulo m, in the words of values and in integers.
use Rattle.std.specs.Prelude.{◌≢◌, ℕ, ℤ}
use Rattle.integers.specs.Staircase.{part}
use Rattle.periodic_net.specs.Graph.{Graph, IsGraph}
use Rattle.exact.specs.Ratio.{whole}
use Rattle.elimination.specs.Equations.{IsSolution, IsOnlySolution}
use Rattle.elimination.specs.RightHand.{IsSolutionWith}
use Rattle.barycentre.specs.Gains.{shifts, Solves, HasOnlyZero}

pub record WholeSolutions : Type 0 where
  -- if whole numbers solve the mean equations modulo m, they do so in integers
  pub solves : (m : ℕ) (G : Graph) (c : ℕ) (s : ℕ → ℤ) → IsSolution m G c (λ u. whole (s u)) → Solves m G (shifts G (part c)) s
  -- and with a right-hand part
  pub solves_with : (m : ℕ) (G : Graph) (right s : ℕ → ℤ) → IsSolutionWith m G (λ u. whole (right u)) (λ u. whole (s u)) → Solves m G right s
  -- if they are the only ones, only 0 solves the homogeneous equations
  pub only_zero : (m : ℕ) → m ≢ 1 → (G : Graph) → IsGraph G → (c : ℕ) (s : ℕ → ℤ) → IsSolution m G c (λ u. whole (s u)) → IsOnlySolution m G c → HasOnlyZero m G
