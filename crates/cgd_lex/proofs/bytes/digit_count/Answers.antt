use Rattle.std.proofs.Common.{sym, ◌∙◌, not}
use Rattle.std.specs.Char.{is_ascii_digit}
use Rattle.cgd_lex.proofs.{Digits.digits_to, Ends.end_or_length}
use Rattle.cgd_lex.proofs.bytes.digit_count.Goals as goal

pub returns-clause-count : goal.returns-clause-count
returns-clause-count c =
    c.unwrap_or.ensures ∙ end_or_length (λ x. not (is_ascii_digit x)) c.args.bytes.now c.digits_end.result (sym c.digits_end.ensures)
    ∙ digits_to c.args.bytes.now
