use Rattle.net_cover.proofs.CoverMade.{first_tells}
use Rattle.net_cover.proofs.lifting.given_edges.Goals as goal

pub returns-in-Err-clause-wide : goal.returns-in-Err-clause-wide
returns-in-Err-clause-wide g c =
    first_tells g.row.D c.args.cell.now.rows c.args.lattice.now c.requires.lattice c.args.edges.now c.args.index c.requires.index c.loop-m.m
    c.loop-m.given.items c.loop-m-test.true c.loop-m.invariant c.in-Err.fault c.in-Err.ensures.wide
