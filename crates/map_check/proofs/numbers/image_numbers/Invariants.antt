use Rattle.map_check.specs.Images.{AreNumbersOf}
use Rattle.map_check.proofs.numbers.image_numbers.Given as goal

abbrev pub invariant-loop-image : goal.invariant-loop-image
invariant-loop-image g l = AreNumbersOf g.row.D l.lattice l.images l.numbers.items l.image-index
