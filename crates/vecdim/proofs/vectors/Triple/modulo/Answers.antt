use Rattle.std.proofs.Common.{rules}
use Rattle.integers.proofs.numbers.Division.{modulo_is}
use Rattle.vecdim.proofs.vectors.Triple.modulo.Goals as goal

pub returns : goal.returns
returns c = search (rules, modulo_is)
