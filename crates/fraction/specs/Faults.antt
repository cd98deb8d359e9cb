-- Why there is no fraction.
use Rattle.std.specs.Prelude.{◌≡◌, ◌≢◌, ℤ, pos}
use Rattle.fraction.specs.Reduced.{IsNarrow}
use Rattle.fraction.specs.Quotients.{quotient}
use Rattle.fraction.specs.declared.numbers.FractionFault.{FractionFault}
use Rattle.fraction.specs.declared.numbers.FractionFault.TheVariants.{Zero, TooBig}

-- n over d is no quotient, or has no reduced fraction of small parts
abbrev pub IsFractionFault : ℤ → ℤ → FractionFault → Type 0
IsFractionFault n d Zero = d ≡ pos 0
IsFractionFault n d TooBig = (d ≢ pos 0) × (¬ IsNarrow (quotient n d))
