use Rattle.std.proofs.Common.{rules}
use Rattle.vecdim.proofs.vectors.Triple.over.Goals as goal

pub quotient-requires-clause-divides : goal.quotient-requires-clause-divides
quotient-requires-clause-divides c = (c.requires.divides.0.x, search rules)

pub quotient-requires-2-clause-divides : goal.quotient-requires-2-clause-divides
quotient-requires-2-clause-divides c = (c.requires.divides.0.y, search rules)

pub quotient-requires-3-clause-divides : goal.quotient-requires-3-clause-divides
quotient-requires-3-clause-divides c = (c.requires.divides.0.z, search rules)
