-- Of `sizes_with`: the loop over `k`; what it ensures; what `next_shell` requires.
use Rattle.std.proofs.Common.{◌≡◌, ◌+◌, ◌<◌, ◌≤◌, length, subst, sym, lit<, arith}
use Rattle.periodic_net.specs.{Classes.ClassGraph, Correspondence.IsClass}
use Rattle.coordination.specs.{Expanding.Expands, Points.IsStep}
use Rattle.coordination.proofs.Layers.{counted_past, counted_ten, counted_turn, grown}
use Rattle.coordination.proofs.PointShells.{class_shown, ready, some_point_shell, start_at}
use Rattle.coordination.proofs.count.sizes_with.Goals as goal

pub next_shell-requires : goal.next_shell-requires
next_shell-requires g c =
    let K = c.net-net.result.now in let test = c.loop-k-test.true in let count = c.loop-k.invariant.count in
    let fewer : length c.loop-k.sizes.items < 10 = omega arith in
    let inside = subst (λ (L : ClassGraph). IsClass L c.args.class) (sym c.net-net.ensures.net) c.requires.class in
    let r = ready K c.args.class c.recall.ensures.small inside c.loop-k.invariant.counted fewer c.deref.ensures.value in
    (lit< tt, (r.classes, (r.near, r.once)))

pub returns-then-len-room : goal.returns-then-len-room
returns-then-len-room g c =
    let K = c.net-net.result.now in
    let past : c.loop-k.room < length c.in_ok-next.next.items = omega (arith, c.if-len-room.true, c.len.ensures) in
    let x = subst (λ xs. Expands (IsStep K) c.loop-k.room xs c.loop-k.found.keys c.in_ok-next.next.items) c.deref.ensures.value c.in_ok-next.ensures.next in
    let p = counted_past (IsStep K) (start_at c.args.class) c.loop-k.invariant.counted x past
    (some_point_shell K (start_at c.args.class) (length c.loop-k.sizes.items + 1)) in
    record { sizes = class_shown K c.args.c.now.classes c.net-net.ensures.net c.args.class c.loop-k.sizes.items p }

pub loop-k-preserved : goal.loop-k-preserved
loop-k-preserved g c =
    let K = c.net-net.result.now in let sizes = c.loop-k.sizes.items in
    let test = c.loop-k-test.true in let count = c.loop-k.invariant.count in
    let fewer : length sizes < 10 = omega arith in
    let size : c.len-room.result ≡ length c.in_ok-next.next.items = omega (arith, c.len-room.ensures) in
    let fits : c.len-room.result ≤ c.loop-k.room = omega (arith, c.if-len-room.false, c.len.ensures, c.len-room.ensures) in
    let again : c.len-in-loop-k.result ≡ c.len-room.result = omega (arith, c.len-in-loop-k.ensures, c.len-room.ensures) in
    let pushed = c.in_ok-push.ensures.items in
    record {
      counted = counted_turn (IsStep K) (start_at c.args.class) c.loop-k.invariant.counted c.deref.ensures.value c.in_ok-next.ensures.next
          c.in_ok-next.ensures.found fewer size fits again pushed;
      count = grown sizes c.push.new.self.items c.len-in-loop-k.result c.loop-k._k pushed count;
    }

pub returns : goal.returns
returns g c =
    let K = c.net-net.result.now in let test = c.loop-k-test.false in let count = c.loop-k.invariant.count in
    let ten : 10 ≤ length c.loop-k.sizes.items = omega arith in
    let p = counted_ten (IsStep K) (start_at c.args.class) c.loop-k.invariant.counted ten in
    record { sizes = class_shown K c.args.c.now.classes c.net-net.ensures.net c.args.class c.loop-k.sizes.items p }
