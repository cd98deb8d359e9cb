-- Kinds of the classes of nets whose key is reported without other lines: two classes of one kind are carried into each other by a symmetry.
use Rattle.std.specs.Prelude.{ℕ, List, [], ◌∷◌}
use Rattle.least_key.specs.AnyNets.{net_view}
use Rattle.least_key.specs.KeyedNets.{HasKinds}
use Rattle.net_report.specs.declared.outcome.Outcome.{Outcome}
use Rattle.net_report.specs.declared.outcome.OutcomeBody.{OutcomeBody}
use Rattle.net_report.specs.declared.outcome.OutcomeBody.TheVariants.{Keyed}

-- if a net is reported with its key alone, these are kinds of its classes
abbrev pub AreKindsTold : OutcomeBody → List ℕ → Type 0
AreKindsTold (Keyed size net) kinds = HasKinds (net_view net) kinds
AreKindsTold body kinds = Unit {0}

-- so it is of each of these outcomes, with the kinds at its place
abbrev pub AreKindsOfAll : List Outcome → List (List ℕ) → Type 0
AreKindsOfAll [] [] = Unit {0}
AreKindsOfAll (o ∷ os) (ks ∷ kinds) = AreKindsTold o.body ks × AreKindsOfAll os kinds
AreKindsOfAll os kinds = ⊥
