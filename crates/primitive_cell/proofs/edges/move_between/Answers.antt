use Rattle.std.proofs.Common.{◌+◌}
use Rattle.periodic_net.specs.Limits.{most_coordinate}
use Rattle.quotient_graph.specs.PlacedNets.{most_position}
use Rattle.primitive_cell.proofs.edges.move_between.Goals as goal

pub returns-clause-within : goal.returns-clause-within
returns-clause-within g c =
    c.minus.ensures.within (most_coordinate + most_position) most_position
    (c.plus.ensures.within most_coordinate most_position c.requires.vector c.requires.from) c.requires.to
