use Rattle.std.proofs.Common.{sym, ◌∙◌, ◌==◌}
use Rattle.cgd_lex.{specs.Pieces.line_feed, proofs.Ends.line_to, proofs.Ends.end_or_length}
use Rattle.cgd_lex.proofs.bytes.line_length.Goals as goal

pub returns-clause-length : goal.returns-clause-length
returns-clause-length c =
    c.unwrap_or.ensures ∙ end_or_length (λ x. x == line_feed) c.args.bytes.now c.line_end.result (sym c.line_end.ensures) ∙ sym (line_to c.args.bytes.now)
