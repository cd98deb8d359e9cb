-- Of `edge_of`: what it ensures; what `position_of`, `move_between` and `coordinates` require.
use Rattle.std.proofs.Common.{rules, ◌≡◌, lit<, sym, ap, subst}
use Rattle.integers.specs.Vectors.{IsWithin}
use Rattle.periodic_net.specs.{Classes.ClassArc, Correspondence.IsClass, Limits.most_coordinate}
use Rattle.quotient_graph.specs.ClassNets.{IsSmallNet}
use Rattle.vecdim.specs.Lattices.{Members}
use Rattle.primitive_cell.specs.{Given.move_of, Places.number_at}
use Rattle.primitive_cell.proofs.MadePrimitive.{represented, tail_in, head_in, move_in, is_given}
use Rattle.primitive_cell.proofs.edges.edge_of.Goals as goal

pub position_of-from-requires : goal.position_of-from-requires
position_of-from-requires g c =
    let k = tail_in g.row.D c.args.net.now c.args.classes.now c.args.firsts.now c.args.stairs.now c.requires.cell c.args.arc.now c.requires.arc in
    let here = subst (IsClass c.args.classes.now.classes) (sym (ap (λ (b : ClassArc). b.from) c.arc.view_is)) k in
    (lit< tt, (lit< tt, represented g.row.D c.args.net.now c.args.classes.now c.args.firsts.now c.args.stairs.now c.requires.cell c.arc.inside.from here))

pub position_of-to-requires : goal.position_of-to-requires
position_of-to-requires g c =
    let k = head_in g.row.D c.args.net.now c.args.classes.now c.args.firsts.now c.args.stairs.now c.requires.cell c.args.arc.now c.requires.arc in
    let here = subst (IsClass c.args.classes.now.classes) (sym (ap (λ (b : ClassArc). b.to) c.arc.view_is)) k in
    (lit< tt, (lit< tt, represented g.row.D c.args.net.now c.args.classes.now c.args.firsts.now c.args.stairs.now c.requires.cell c.arc.inside.to here))

pub move_between-v-requires : goal.move_between-v-requires
move_between-v-requires g c =
    let small = subst IsSmallNet c.net.ensures.net c.recall.ensures.small in
    let within = subst (IsWithin most_coordinate) (sym (ap (λ (b : ClassArc). b.vector) c.arc.view_is)) (small.within c.args.arc.now c.requires.arc) in
    (lit< tt, (within, (c.position_of-from.ensures.small, c.position_of-to.ensures.small)))

pub coordinates-requires : goal.coordinates-requires
coordinates-requires g c =
    let N = c.args.net.now in let us = c.args.firsts.now in
    let e : c.move_between-v.result ≡ move_of N.placement (number_at us) c.args.arc.now = search rules in
    let m = subst (Members g.row.D c.args.stairs.now) (sym e)
    (move_in g.row.D N c.args.classes.now us c.args.stairs.now c.requires.cell c.args.arc.now c.requires.arc) in
    (lit< tt, (lit< tt, (m, c.move_between-v.ensures.within)))

pub returns : goal.returns
returns g c =
    let N = c.args.net.now in let us = c.args.firsts.now in
    let e : c.move_between-v.result ≡ move_of N.placement (number_at us) c.args.arc.now = search rules in
    is_given g.row.D N c.args.classes.now us c.args.stairs.now c.requires.cell c.args.arc.now _ c.arc.view_is c.move_between-v.result c.coordinates.result e
    c.coordinates.ensures.value c.coordinates.ensures.dimension
