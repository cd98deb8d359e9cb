use Rattle.std.proofs.Common.{◌≡◌, ◌^◌, length, All}
use Rattle.integers.specs.Vectors.{IsWithin, HasDimension}
use Rattle.barycentre.proofs.guesses.guess.Given as goal

abbrev pub invariant-loop-row : goal.invariant-loop-row
invariant-loop-row g l = record {
  count : length l.at.items ≡ l.row-index;
  reach : All (IsWithin (2 ^ 102)) l.at.items;
  flat : All (HasDimension g.row.D) l.at.items;
}
