use Rattle.std.specs.Prelude.{IsTrue}
use Rattle.integers.proofs.vectors.StairBasis.{one_staircase}
use Rattle.vecdim.proofs.staircase.rows_are_one.Goals as goal

pub returns : goal.returns
returns c = record {
  theorem = λ L M d rows others s t h. one_staircase (λ v. IsTrue (L v)) (λ v. IsTrue (M v)) d rows others s t h;
}
