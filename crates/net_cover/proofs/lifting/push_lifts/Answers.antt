-- Of `push_lifts`: what `normal` requires; the loop over `start`; the clause `wide`.
use Rattle.std.proofs.Common.{◌+◌, ◌*◌, List, lit<, sym, subst}
use Rattle.periodic_net.specs.Graph.{Arc}
use Rattle.net_cover.specs.{Covers.AreGiven, Covers.IsLift, Lifting.CanLift, Lifting.TellsLift}
use Rattle.net_cover.proofs.CoverMade.{edge_read, lifted_no_point, one_more, edge_tells}
use Rattle.net_cover.proofs.lifting.push_lifts.Goals as goal

pub normal-requires : goal.normal-requires
normal-requires g c =
    let a = c.index-edges-m.result in
    let can = subst (CanLift g.row.D) (sym c.index-edges-m.is) (c.requires.edges c.args.m a c.requires.m) in
    let no_point = lifted_no_point g.row.D c.args.cell.now.rows c.args.lattice.now a c.loop-start.start c.in-Ok.edge can c.in-Ok.ensures.lift in
    (lit< tt, (c.in-Ok.ensures.small, no_point))

pub loop-start-preserved : goal.loop-start-preserved
loop-start-preserved g c =
    let d = g.row.D in let b = c.args.cell.now.rows in let S = c.args.lattice.now in
    let es = c.args.edges.now in
    let is = edge_read es c.args.m c.index-edges-m.result c.requires.m c.index-edges-m.is in
    let lift = subst (λ (a : Arc). IsLift d b S a c.loop-start.start c.in-Ok.edge) is c.in-Ok.ensures.lift in
    subst (AreGiven d b S es (c.args.m * c.args.index + (c.loop-start.start + 1))) (sym {A = List Arc} c.in_ok-put_last-in-Ok.ensures)
    (one_more d b S c.requires.lattice es c.args.index c.requires.index c.args.m c.loop-start.start c.loop-start.given.items c.in-Ok.edge c.normal.result
    c.loop-start-test.true c.loop-start.invariant
    lift c.normal.ensures.spelled c.normal.ensures.small)

pub returns-in-Err-clause-wide : goal.returns-in-Err-clause-wide
returns-in-Err-clause-wide g c =
    let d = g.row.D in let b = c.args.cell.now.rows in let S = c.args.lattice.now in
    let es = c.args.edges.now in
    let is = edge_read es c.args.m c.index-edges-m.result c.requires.m c.index-edges-m.is in
    let t = subst (λ (a : Arc). TellsLift d b S a c.loop-start.start c.in-Err.fault) is c.in-Err.ensures.wide in
    edge_tells d b S c.requires.lattice es c.args.index c.requires.index c.args.m c.loop-start.start c.loop-start.given.items c.loop-start-test.true
    c.loop-start.invariant c.in-Err.fault t
