use Rattle.net_certificate.proofs.WholeTexts.{image_left}
use Rattle.net_certificate.proofs.write.push_images.Goals as goal

pub loop-i-preserved : goal.loop-i-preserved
loop-i-preserved c = image_left c.args.text.now.items c.loop-i.text.items c.push_image.new.text.items c.args.dim c.args.other c.args.m c.args.images.now
    c.loop-i.i c.vertex_at.result c.at.result.now _ c.at.ensures c.vertex_at.ensures c.in_ok-push_image.ensures c.loop-i.invariant
