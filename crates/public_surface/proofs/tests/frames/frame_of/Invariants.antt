use Rattle.std.{proofs.Common.List, proofs.Common.length, specs.List.Contains}
use Rattle.periodic_net.specs.Classes.{ClassArc}
use Rattle.key_theory.specs.Frames.{IsFrame}
use Rattle.public_surface.proofs.tests.frames.frame_of.Given as goal

abbrev pub invariant-loop-frame : goal.invariant-loop-frame
invariant-loop-frame g l = (f : List ClassArc) → Contains l.frames f → IsFrame l.classes.classes 1 f

abbrev pub decreases-loop-frame : goal.decreases-loop-frame
decreases-loop-frame g l = length l.frames
