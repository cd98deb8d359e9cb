-- Of `next_shell`: the loop over `from`; what `follow` requires; the clauses `next` and `found`.
use Rattle.std.proofs.Common.{◌<◌, length, ◌+◌, lit<, arith}
use Rattle.coordination.proofs.Layers.{search_starts, search_ends, search_stops}
use Rattle.coordination.{proofs.PointShells.star_short, proofs.PointShells.search_turn, specs.Points.IsStep}
use Rattle.coordination.proofs.search.next_shell.Goals as goal

pub loop-from-init : goal.loop-from-init
loop-from-init g c = search_starts (IsStep c.args.net.now) c.args.found.now.keys c.new-next.result.items c.requires.once c.new-next.ensures.items

pub follow-requires : goal.follow-requires
follow-requires g c =
    let short = star_short c.args.net.now c.arcs.ensures.small _ c.arcs.result.now c.arcs.ensures.arcs in
    (lit< tt, (c.requires.near c.loop-from.from-index _ c.loop-from-test.true, short))

pub loop-from-preserved : goal.loop-from-preserved
loop-from-preserved g c =
    search_turn c.args.net.now c.args.shell.now c.loop-from.from-index c.loop-from.invariant c.loop-from-test.true c.arcs.ensures.arcs
    c.in_ok-follow.ensures.found c.in_ok-follow.ensures.next

pub returns-then-len-room-clause-next : goal.returns-then-len-room-clause-next
returns-then-len-room-clause-next g c =
    let h = search_turn c.args.net.now c.args.shell.now c.loop-from.from-index c.loop-from.invariant c.loop-from-test.true c.arcs.ensures.arcs
    c.in_ok-follow.ensures.found c.in_ok-follow.ensures.next in
    let more : c.args.room < length c.follow.new.next.items = omega (arith, c.if-len-room.true, c.len.ensures) in
    search_stops (IsStep c.args.net.now) c.args.room (c.loop-from.from-index + 1) c.args.shell.now c.args.found.now.keys c.follow.new.found.keys
    c.follow.new.next.items more h

pub returns-then-len-room-clause-found : goal.returns-then-len-room-clause-found
returns-then-len-room-clause-found g c =
    let h = search_turn c.args.net.now c.args.shell.now c.loop-from.from-index c.loop-from.invariant c.loop-from-test.true c.arcs.ensures.arcs
    c.in_ok-follow.ensures.found c.in_ok-follow.ensures.next in h.found_is

pub returns-clause-next : goal.returns-clause-next
returns-clause-next g c =
    search_ends (IsStep c.args.net.now) c.args.room c.loop-from.from-index c.args.shell.now c.args.found.now.keys c.loop-from.found.keys c.loop-from.next.items
    c.loop-from-test.false c.loop-from.invariant
