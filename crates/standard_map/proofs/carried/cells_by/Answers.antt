use Rattle.standard_map.proofs.EdgeTurns.{cells_are, some_carry}
use Rattle.standard_map.proofs.carried.cells_by.Goals as goal

pub cells_of-requires-clause-carried : goal.cells_of-requires-clause-carried
cells_of-requires-clause-carried g c =
    some_carry c.args.here.now c.args.there.now c.requires.one_key c.args.closed.now.shifts c.args.closed.now.images c.requires.carried

pub returns-clause-cells : goal.returns-clause-cells
returns-clause-cells g c =
    cells_are c.args.here.now c.args.there.now c.args.closed.now.shifts c.args.closed.now.images c.requires.carried c.cells_of.result c.cells_of.ensures.value
