-- Of `shells_in`: the loop over `k`; the clauses `sizes` and `marked`; what `next_shell` requires; that numbers fit.
use Rattle.std.proofs.Common.{◌≡◌, ◌+◌, ◌-◌, ◌<◌, ◌≤◌, length, refl, ap, arith}
use Rattle.coordination.proofs.BoxCounting.{counting_past, counting_starts, counting_ten, counting_turn, next_counted, searchable}
use Rattle.coordination.proofs.Layers.{grown}
use Rattle.coordination.proofs.box_count.shells_in.Goals as goal

pub loop-k-init : goal.loop-k-init
loop-k-init c = record {
  counted = λ P q i.
      rw c.in_ok-sizes.ensures.items (counting_starts q c.args.over i c.args.marks.now c.mark.new.marks c.args.found.now.items c.mark.new.found.items
      (c.args.net_box.now.origin + (c.args.over - 1)) c.requires.size
      c.requires.unmarked c.requires.empty refl c.in_ok-mark.ensures.marks c.in_ok-mark.ensures.found);
  count = ap length c.in_ok-sizes.ensures.items;
}

pub next_shell-requires : goal.next_shell-requires
next_shell-requires c =
    let r = c.requires.start in let test = c.loop-k-test.true in let count = c.loop-k.invariant.count in
    let h = c.loop-k.invariant.counted r.graph r.is_box r.inside in
    let fewer : length c.loop-k.sizes.items < 10 = omega arith in
    record { graph = r.graph; vertices = h.vertices; searchable = searchable r.is_box c.args.over r.inside h fewer }

pub overflow_sub-size : goal.overflow_sub-size
overflow_sub-size c =
    let r = c.requires.start in
    let t = next_counted r.is_box c.args.over r.inside (c.loop-k.invariant.counted r.graph r.is_box r.inside) c.loop-k._k c.loop-k.invariant.count
    c.loop-k-test.true c.next_shell.new.marks c.next_shell.new.found.items c.in_ok-next_shell.ensures in
    omega (arith, t.size, c.len.ensures, c.len-end.ensures)

pub returns-then-size-room-clause-sizes : goal.returns-then-size-room-clause-sizes
returns-then-size-room-clause-sizes c = λ P q i.
    let h = c.loop-k.invariant.counted P q i in
    let t = next_counted q c.args.over i h c.loop-k._k c.loop-k.invariant.count c.loop-k-test.true c.next_shell.new.marks c.next_shell.new.found.items
    c.in_ok-next_shell.ensures in
    counting_past q c.args.over i h t.shell (omega (arith, t.size, c.len.ensures, c.len-end.ensures, c.if-size-room.true))

pub returns-then-size-room-clause-marked : goal.returns-then-size-room-clause-marked
returns-then-size-room-clause-marked c =
    let r = c.requires.start in
    let t = next_counted r.is_box c.args.over r.inside (c.loop-k.invariant.counted r.graph r.is_box r.inside) c.loop-k._k c.loop-k.invariant.count
    c.loop-k-test.true c.next_shell.new.marks c.next_shell.new.found.items c.in_ok-next_shell.ensures in
    t.shell.is_found.marked

pub loop-k-preserved : goal.loop-k-preserved
loop-k-preserved c = record {
  counted = λ P q i.
      let h = c.loop-k.invariant.counted P q i in
      let t = next_counted q c.args.over i h c.loop-k._k c.loop-k.invariant.count c.loop-k-test.true c.next_shell.new.marks c.next_shell.new.found.items
      c.in_ok-next_shell.ensures in
      let size : c.len.result - c.len-end.result ≡ length t.shell.next = omega (arith, t.size, c.len.ensures, c.len-end.ensures) in
      let fits : c.len.result - c.len-end.result ≤ c.loop-k.room = omega (arith, c.if-size-room.false) in
      let end : c.len-end.result ≡ length c.loop-k.found.items = omega (arith, c.len-end.ensures) in
      counting_turn q c.args.over i h t.shell c.push.new.self.items (c.len.result - c.len-end.result) (c.len.result - c.len-end.result) c.len-end.result
      t.few size fits refl c.in_ok-push.ensures.items end;
  count = let count = c.loop-k.invariant.count in grown c.loop-k.sizes.items c.push.new.self.items
      (c.len.result - c.len-end.result) c.loop-k._k c.in_ok-push.ensures.items count;
}

pub returns-clause-sizes : goal.returns-clause-sizes
returns-clause-sizes c = λ P q i.
    let ten : 10 ≤ length c.loop-k.sizes.items = omega arith in
    counting_ten q c.args.over i (c.loop-k.invariant.counted P q i) ten

pub returns-clause-marked : goal.returns-clause-marked
returns-clause-marked c = let r = c.requires.start in (c.loop-k.invariant.counted r.graph r.is_box r.inside).is_found.marked
