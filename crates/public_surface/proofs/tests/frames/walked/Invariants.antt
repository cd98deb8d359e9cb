use Rattle.std.proofs.Common.{◌-◌}
use Rattle.periodic_net.specs.Limits.{most_arcs}
use Rattle.public_surface.proofs.tests.frames.walked.Given as goal

abbrev pub decreases-loop-row : goal.decreases-loop-row
decreases-loop-row g l = most_arcs - l.walker.given
