use Rattle.barycentre.specs.Denominators.{IsUsable}
use Rattle.barycentre.proofs.guesses.units_guess.Given as goal

abbrev pub invariant-loop-row : goal.invariant-loop-row
invariant-loop-row g l = IsUsable l.d0
