use Rattle.std.proofs.{Common.arith, lemmas.Int.to_z-of_z}
use Rattle.net_certificate.proofs.FirstWide.{wide_itself}
use Rattle.net_certificate.proofs.boxes.wide_number.Goals as goal

pub returns-else-is_small : goal.returns-else-is_small
returns-else-is_small c = grind (arith, to_z-of_z, wide_itself)
