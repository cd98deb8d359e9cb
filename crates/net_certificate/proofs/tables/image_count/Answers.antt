use Rattle.std.proofs.Common.{ℕ, ◌*◌, ap, ◌∙◌}
use Rattle.map_check.proofs.CallerLemmas.{box_is_power}
use Rattle.net_certificate.proofs.tables.image_count.Goals as goal

pub returns : goal.returns
returns c = ap (λ (n : ℕ). c.args.size.now.vertices * n) (c.box_size.ensures.value ∙ box_is_power c.args.size.now.dim c.args.m c.requires.size.dim)
