-- What the moduli give of the placement of a net.
use Rattle.std.specs.Prelude.{ℕ, pos, ◌≤ℤ◌}
use Rattle.periodic_net.specs.Graph.{Graph}
use Rattle.periodic_net.specs.Placement.{IsNormalPlacement, IsWithinLimits}
use Rattle.quotient_graph.specs.PlacedNets.{placement_of}
use Rattle.barycentre.specs.Reached.{HasInverses, HasModulus, IsFirstPivot, AreNotWithin, first_modulus, second_modulus, third_modulus}
use Rattle.barycentre.specs.declared.units.Units.{Units}
use Rattle.barycentre.specs.declared.attempts.Attempt.{Attempt}
use Rattle.barycentre.specs.declared.attempts.Attempt.TheVariants.{NoInverse}
use Rattle.barycentre.specs.declared.attempts.Attempt.TheVariants.{Failed as FailedOnce}
use Rattle.barycentre.specs.declared.attempts.Attempt.TheVariants.{Found as FoundOnce}
use Rattle.barycentre.specs.declared.attempts.Tried.{Tried}
use Rattle.barycentre.specs.declared.attempts.Tried.TheVariants.{NoModulus, Failed, Found}

-- the units are the normal placement of G, within the limits
abbrev pub IsFoundPlacement : Graph → Units → Type 0
IsFoundPlacement G u = (pos 1 ≤ℤ u.d0) × IsNormalPlacement G (placement_of u.d0 u.at.items) × IsWithinLimits G (placement_of u.d0 u.at.items)

-- what residues modulo m give
abbrev pub IsAttempt : ℕ → Graph → Attempt → Type 0
IsAttempt m G (NoInverse k) = IsFirstPivot m G k
IsAttempt m G FailedOnce = HasInverses m G × AreNotWithin G
IsAttempt m G (FoundOnce u) = HasInverses m G × IsFoundPlacement G u

-- modulo each of the three moduli the weight sum at the pivot shown is the first without an inverse
abbrev pub LackInverses : Graph → ℕ → ℕ → ℕ → Type 0
LackInverses G first second third = IsFirstPivot first_modulus G first × IsFirstPivot second_modulus G second × IsFirstPivot third_modulus G third

-- what the three moduli give, the first that serves
abbrev pub IsTried : Graph → Tried → Type 0
IsTried G (NoModulus first second third) = LackInverses G first second third
IsTried G Failed = HasModulus G × AreNotWithin G
IsTried G (Found u) = HasModulus G × IsFoundPlacement G u
