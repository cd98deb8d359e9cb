use Rattle.vecdim.proofs.Stairway.{coordinates_are}
use Rattle.vecdim.proofs.staircase.Staircase.coordinates.Goals as goal

pub returns-clause-value : goal.returns-clause-value
returns-clause-value g c = (coordinates_are g.row.D c.divided.ensures.stair c.divided.ensures.divided c.requires).0

pub returns-clause-dimension : goal.returns-clause-dimension
returns-clause-dimension g c = (coordinates_are g.row.D c.divided.ensures.stair c.divided.ensures.divided c.requires).1
