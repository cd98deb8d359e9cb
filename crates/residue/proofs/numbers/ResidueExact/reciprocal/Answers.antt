use Rattle.residue.proofs.Remainders.{is_inverse_of}
use Rattle.residue.proofs.numbers.ResidueExact.reciprocal.Goals as goal

pub returns-in-Some : goal.returns-in-Some
returns-in-Some g c = record {
  inverse = is_inverse_of g.row.M c.args.self.value c.in-Some.r c.in-Some.ensures;
  fit = λ a. tt;
}
