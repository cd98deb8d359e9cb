use Rattle.std.{proofs.Common.ap, proofs.Common.◌∙◌, specs.Result.result_ok}
use Rattle.line_text.proofs.Texts.{parsed_again, number_is_text}
use Rattle.line_text.proofs.numbers.parsed_number.Goals as goal

pub returns-in-Ok : goal.returns-in-Ok
returns-in-Ok c = λ z w e.
    let p = parsed_again z c.in-Ok.text.now c.parse.result w (c.in-Ok.ensures.cases.0 ∙ e) c.parse.ensures.value.0 in
    c.ok.ensures.value ∙ ap result_ok p

pub returns-in-Err : goal.returns-in-Err
returns-in-Err c = λ z w e. absurd (c.in-Err.ensures.cases.0 (number_is_text z c.args.bytes.now w e))
