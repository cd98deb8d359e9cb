use Rattle.net_certificate.specs.Tables.{AreFirstImages}
use Rattle.net_certificate.proofs.boxes.box_images.Given as goal

abbrev pub invariant-loop-i : goal.invariant-loop-i
invariant-loop-i g l = AreFirstImages l.here l.there l.m l.i l.found.items
