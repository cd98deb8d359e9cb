use Rattle.std.proofs.Common.{◌≡◌, ◌+◌, ◌*◌, ◌/◌, ◌%◌, ℕ, arith}
use Rattle.residue.proofs.Classes.{digits_residue, digits_residue_less}
use Rattle.residue.proofs.modular.folded.Goals as goal

-- a number by its digits to the base 2^61
digits : (t : ℕ) → t ≡ t / 2305843009213693952 * 2305843009213693951 + t / 2305843009213693952 + t % 2305843009213693952
digits t = omega arith

pub returns-then-sum-lt-MERSENNE : goal.returns-then-sum-lt-MERSENNE
returns-then-sum-lt-MERSENNE c = search (arith, digits_residue, digits)

pub returns : goal.returns
returns c =
    let t = c.args.product in
    digits_residue_less 2305843009213693951 t (t / 2305843009213693952) (t % 2305843009213693952) (digits t) c.if-sum-lt-MERSENNE.false
    (omega (arith, c.requires))
