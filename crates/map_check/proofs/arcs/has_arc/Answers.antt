use Rattle.std.proofs.Common.{refl}
use Rattle.map_check.proofs.LostArcs.{stands_there}
use Rattle.map_check.proofs.arcs.has_arc.Goals as goal

pub returns-then-stands_at : goal.returns-then-stands_at
returns-then-stands_at g c = let t = c.stands_at.ensures.0 c.if-stands_at.true in (λ _. (c.args.near.now, t.0, t.1), λ i. refl)

pub returns : goal.returns
returns g c = (
  λ t. let s = c.stands_at-2.ensures.0 t in (c.place_of-at.result, s.0, s.1),
  λ i. c.stands_at-2.ensures.1 (stands_there c.args.arcs.now c.args.arc.now c.place_of-at.result c.requires c.place_of-at.ensures i),
)
