-- Of `next_shell`: the loop over `i`; what it ensures; what `at` and `follow` require; that numbers fit.
use Rattle.std.proofs.Common.{◌≡◌, ◌+◌, ◌-◌, ◌<◌, ◌≤◌, length, subst, arith}
use Rattle.coordination.specs.declared.spot.Spot.{Spot}
use Rattle.coordination.proofs.BoxSearch.{as_many, found_since, next_at, next_lands, searching_starts, searching_on, searching_ends, searching_stops}
use Rattle.coordination.proofs.BoxSearch.{star_within}
use Rattle.coordination.proofs.box_search.next_shell.Goals as goal

pub loop-i-init : goal.loop-i-init
loop-i-init c = λ P vertices h. searching_starts h

pub overflow_sub-from : goal.overflow_sub-from
overflow_sub-from c =
    let r = c.requires in
    let n = next_at r.searchable c.loop-i.i (c.loop-i.invariant r.graph r.vertices r.searchable) c.index-from.ensures c.loop-i.auto.i c.len-end.result
    (omega (arith, c.len-end.ensures)) c.loop-i-test.true in
    subst (λ (t : Spot). 1 ≤ t.over) n.spot n.inside.low

pub at-requires : goal.at-requires
at-requires c =
    let r = c.requires in
    let n = next_at r.searchable c.loop-i.i (c.loop-i.invariant r.graph r.vertices r.searchable) c.index-from.ensures c.loop-i.auto.i c.len-end.result
    (omega (arith, c.len-end.ensures)) c.loop-i-test.true in
    subst (λ (t : Spot). t.over - 1 < length c.args.net_box.now.stars) n.spot (star_within r.graph c.args.net_box.now r.searchable.is_box n.at n.inside)

pub follow-requires-clause-few : goal.follow-requires-clause-few
follow-requires-clause-few c = omega arith

pub follow-requires-clause-landing : goal.follow-requires-clause-landing
follow-requires-clause-landing c =
    let r = c.requires in
    let many : c.len-end.result ≡ length c.args.found.now.items = omega (arith, c.len-end.ensures) in
    let s = c.loop-i.invariant r.graph r.vertices r.searchable in
    let n = next_at r.searchable c.loop-i.i s c.index-from.ensures c.loop-i.auto.i c.len-end.result many c.loop-i-test.true in
    next_lands r.searchable c.loop-i.i s n c.at.ensures (length c.loop-i.marks) s.is_found.size

pub overflow_sub-len : goal.overflow_sub-len
overflow_sub-len c =
    let r = c.requires in
    let many : c.len-end.result ≡ length c.args.found.now.items = omega (arith, c.len-end.ensures) in
    let s = c.loop-i.invariant r.graph r.vertices r.searchable in
    let n = next_at r.searchable c.loop-i.i s c.index-from.ensures c.loop-i.auto.i c.len-end.result many c.loop-i-test.true in
    let t = searching_on r.searchable c.loop-i.i s n c.at.ensures _ _ c.in_ok-follow.ensures.marks c.in_ok-follow.ensures.found in
    let since = found_since r.searchable (c.loop-i.i + 1) t in omega (arith, many, since, c.len.ensures)

pub returns-then-len-end : goal.returns-then-len-end
returns-then-len-end c = λ P vertices h.
    let many : c.len-end.result ≡ length c.args.found.now.items = omega (arith, c.len-end.ensures) in
    let s = c.loop-i.invariant P vertices h in
    let n = next_at h c.loop-i.i s c.index-from.ensures c.loop-i.auto.i c.len-end.result many c.loop-i-test.true in
    let t = searching_on h c.loop-i.i s n c.at.ensures _ _ c.in_ok-follow.ensures.marks c.in_ok-follow.ensures.found in
    let since = found_since h (c.loop-i.i + 1) t in
    searching_stops h (c.loop-i.i + 1) t c.args.room (omega (arith, many, since, c.len.ensures, c.if-len-end.true))

pub loop-i-preserved : goal.loop-i-preserved
loop-i-preserved c = λ P vertices h.
    let many : c.len-end.result ≡ length c.args.found.now.items = omega (arith, c.len-end.ensures) in
    let s = c.loop-i.invariant P vertices h in
    let n = next_at h c.loop-i.i s c.index-from.ensures c.loop-i.auto.i c.len-end.result many c.loop-i-test.true in
    searching_on h c.loop-i.i s n c.at.ensures _ _ c.in_ok-follow.ensures.marks c.in_ok-follow.ensures.found

pub returns : goal.returns
returns c = λ P vertices h.
    let many : c.len-end.result ≡ length c.args.found.now.items = omega (arith, c.len-end.ensures) in
    let all = as_many h in
    searching_ends h c.loop-i.i (c.loop-i.invariant P vertices h) c.args.room (omega (arith, many, all, c.loop-i-test.false))
