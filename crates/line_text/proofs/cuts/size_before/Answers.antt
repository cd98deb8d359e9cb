use Rattle.std.proofs.Common.{◌∙◌, ap, length}
use Rattle.std.specs.Option.{unwrap_or}
use Rattle.line_text.proofs.Texts.{size_is}
use Rattle.line_text.proofs.cuts.size_before.Goals as goal

pub returns-clause-size : goal.returns-clause-size
returns-clause-size c = c.unwrap_or.ensures ∙ ap (λ o. unwrap_or o (length c.args.bytes.now)) c.place_of.ensures ∙ size_is c.args.mark c.args.bytes.now
