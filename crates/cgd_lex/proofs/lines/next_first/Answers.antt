use Rattle.std.proofs.Common.{◌∙◌, sym, ap}
use Rattle.cgd_lex.{specs.Views.token_view, specs.Lines.filled_lines, proofs.LineLists.at_token}
use Rattle.cgd_lex.proofs.lines.next_first.Goals as goal

pub returns-then-not-is_newline-clause-lines : goal.returns-then-not-is_newline-clause-lines
returns-then-not-is_newline-clause-lines c =
    sym c.loop-token.invariant.lines
    ∙ ap filled_lines c.in-Some.ensures.token
    ∙ at_token (token_view c.in-Some.token) c.next.new.self (sym c.is_newline.ensures ∙ c.if-not-is_newline.true)
