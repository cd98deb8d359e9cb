use Rattle.std.proofs.Common.{◌∙◌, ap, take, drop}
use Rattle.line_text.proofs.Texts.{taken, dropped}
use Rattle.line_text.proofs.cuts.cut.Goals as goal

pub returns-clause-first : goal.returns-clause-first
returns-clause-first c = c.split_at.ensures.front ∙ ap (λ n. take n c.args.bytes.now) c.size_before.ensures.size ∙ taken c.args.mark c.args.bytes.now

pub returns-clause-second : goal.returns-clause-second
returns-clause-second c = c.split_at.ensures.back ∙ ap (λ n. drop n c.args.bytes.now) c.size_before.ensures.size ∙ dropped c.args.mark c.args.bytes.now
