use Rattle.std.proofs.Common.{subst, sym}
use Rattle.integers.specs.Vectors.{IsWithin}
use Rattle.vecdim.proofs.staircase.Staircase.divided.Goals as goal

pub returns-clause-within : goal.returns-clause-within
returns-clause-within g c = λ n h. c.divide_by.ensures.within n (subst (IsWithin n) (sym c.to_triple.ensures.value) h)
