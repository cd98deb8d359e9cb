use Rattle.std.proofs.Common.{◌≡◌, map, take}
use Rattle.barycentre.specs.ResidueRows.{residue_vector}
use Rattle.barycentre.proofs.steps.whole_rows.Given as goal

-- the vectors of the rows before this one
abbrev pub invariant-loop-row : goal.invariant-loop-row
invariant-loop-row g l = l.at.items ≡ map residue_vector (take l.row-index l.rows)
