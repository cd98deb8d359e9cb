use Rattle.std.proofs.Common.{◌∙◌, ap, sym, subst}
use Rattle.integers.specs.Vectors.{IsWithin, minus}
use Rattle.periodic_net.specs.Limits.{most_walk}
use Rattle.map_check.specs.Conditions.{most_period}
use Rattle.net_certificate.proofs.boxes.steps_from.Goals as goal

pub returns : goal.returns
returns g c =
    let shift = c.to_triple.ensures.value in
    record {
      value = c.minus.ensures.value ∙ ap (minus c.args.r.now) shift;
      within = c.minus.ensures.within most_period most_walk c.requires.r (subst (IsWithin most_walk) (sym shift) c.requires.shift);
    }
