use Rattle.std.proofs.Common.{◌-◌, ◌<◌, ℕ, length, ap, arith}
use Rattle.periodic_net.specs.Graph.{Arc}
use Rattle.quotient_graph.proofs.Stars.{map_pushed}
use Rattle.quotient_graph.proofs.build.push_arc.Goals as goal

pub returns : goal.returns
returns g c =
    let tail = ap (λ (a : Arc). a.from) c.arc.view_is in
    let inside : c.arc.inside.from - 1 < length c.args.stars.now = omega arith in
    map_pushed (λ s. s.items) c.args.stars.now (c.arc.inside.from - 1) c.index-stars-arc.result c.push.new.self c.args.arc
    (ap (λ (n : ℕ). n - 1) tail) inside c.in_ok-push.ensures.ok
