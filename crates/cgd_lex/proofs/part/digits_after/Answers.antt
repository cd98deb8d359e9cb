use Rattle.std.proofs.Common.{sym, ◌∙◌}
use Rattle.cgd_lex.proofs.Digits.{digits_kind, digits_size}
use Rattle.cgd_lex.proofs.part.digits_after.Goals as goal

pub returns-then-is_run_end-clause-kind : goal.returns-then-is_run_end-clause-kind
returns-then-is_run_end-clause-kind c = digits_kind c.args.first c.args.others.now c.digit_count-size.result
    (sym c.is_ascii_digit.ensures.value ∙ c.if-is_ascii_digit.true) c.digit_count-size.ensures.count (sym c.is_run_end.ensures ∙ c.if-is_run_end.true)

pub returns-then-is_run_end-clause-size : goal.returns-then-is_run_end-clause-size
returns-then-is_run_end-clause-size c = digits_size c.args.first c.args.others.now c.digit_count-size.result
    (sym c.is_ascii_digit.ensures.value ∙ c.if-is_ascii_digit.true) c.digit_count-size.ensures.count (sym c.is_run_end.ensures ∙ c.if-is_run_end.true)
