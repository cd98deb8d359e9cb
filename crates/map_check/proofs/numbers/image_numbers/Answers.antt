use Rattle.map_check.proofs.ImageNumbers.{numbers_more}
use Rattle.map_check.proofs.numbers.image_numbers.Goals as goal

pub loop-image-preserved : goal.loop-image-preserved
loop-image-preserved g c =
    numbers_more g.row.D c.args.lattice.now c.args.images.now c.loop-image.numbers.items c.push.new.self.items c.loop-image.image-index c.image_number.result
    c.image-item.result
    c.loop-image-test.true c.image-item.is c.in_ok-push.ensures.items c.loop-image.invariant c.image_number.ensures
