use Rattle.std.{proofs.Common.◌≡◌, proofs.Common.subst, proofs.Common.ap, specs.List.All}
use Rattle.integers.specs.Vectors.{Vector, cross, zero_vector}
use Rattle.standard_map.{specs.Turns.Turn, proofs.EdgeTurns.not_on_line}
use Rattle.standard_map.proofs.closed.with_second.Goals as goal

pub unreachable-requires : goal.unreachable-requires
unreachable-requires g c =
    not_on_line g.row.D c.args.turns.now c.requires.full c.args.a.now.shift c.requires.some
    (subst (λ (v : Vector). All (λ (t : Turn). cross v t.shift ≡ zero_vector) c.args.turns.now) (ap (λ (x : Turn). x.shift) c.a.view_is)
    (c.first_apart.ensures.none c.in-None.is))
