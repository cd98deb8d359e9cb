-- Searches of shells along any relation of steps.
use Rattle.std.specs.Prelude.{◌≢◌, ℕ, ◌≤◌, List, ◌++◌, length, AllPairs, Contains}

-- each of these stands there once
abbrev pub StandOnce : {X : Type 0} → List X → Type 0
StandOnce xs = AllPairs (λ x y. x ≢ y) xs

-- next has things to which steps lead from these, each once and none of those before; and all others if it has at most so many
pub record Expands {X : Type 0} (Step : X → X → Type 0) (room : ℕ) (from before next : List X) : Type 0 where
  pub each : (x : X) → Contains next x → (y : X) × Contains from y × Step y x
  pub once : StandOnce (before ++ next)
  pub every : length next ≤ room → (y x : X) → Contains from y → Step y x → Contains (before ++ next) x
