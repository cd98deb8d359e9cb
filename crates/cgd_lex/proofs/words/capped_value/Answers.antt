use Rattle.std.proofs.Common.{◌∙◌}
use Rattle.cgd_lex.proofs.LineLists.{capped_is}
use Rattle.cgd_lex.proofs.words.capped_value.Goals as goal

pub returns : goal.returns
returns c = c.in_turn.ensures ∙ capped_is c.args.cap c.args.digits.now
