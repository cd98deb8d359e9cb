use Rattle.integers.specs.Vectors.{parts}
use Rattle.net_certificate.proofs.FirstWide.{IsPassed}
use Rattle.net_certificate.proofs.boxes.wide_row.Given as goal

abbrev pub invariant-loop-row : goal.invariant-loop-row
invariant-loop-row g l = IsPassed (parts g.row.D) l.rows l.row-index
