use Rattle.integers.specs.Vectors.{parts}
use Rattle.periodic_net.specs.Graph.{Vertex}
use Rattle.net_certificate.proofs.FirstWide.{IsPassed}
use Rattle.net_certificate.proofs.boxes.wide_image.Given as goal

abbrev pub invariant-loop-image : goal.invariant-loop-image
invariant-loop-image g l = IsPassed (λ (w : Vertex). parts g.row.D w.cell) l.images l.image-index
