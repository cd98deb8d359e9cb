use Rattle.std.{proofs.Common.◌≡◌, proofs.Common.ℤ, specs.Fmt.signed_decimal}
use Rattle.line_text.proofs.CallerLemmas.{some_from}
use Rattle.net_certificate.specs.{Rows.reason_text, declared.items.NoMap.TheVariants.Wide}
use Rattle.net_certificate.proofs.RowForms.{is_wide, wide_digits, no_wide}
use Rattle.net_certificate.proofs.reading.value_of.Goals as goal

pub returns-in-Some-clause-found : goal.returns-in-Some-clause-found
returns-in-Some-clause-found c = some_from c.read_number.result (λ (z : ℤ). c.in-Some.digits.now ≡ signed_decimal z)
    (λ (z : ℤ). c.args.text.now ≡ reason_text (Wide z))
    (λ z e. is_wide c.args.text.now c.in-Some.digits.now z c.in-Some.ensures e) c.read_number.ensures.spelling

pub returns-in-Some-clause-every : goal.returns-in-Some-clause-every
returns-in-Some-clause-every c = λ z wide e. c.read_number.ensures.every z wide (wide_digits c.args.text.now c.in-Some.digits.now z c.in-Some.ensures e)

pub returns-in-None-clause-every : goal.returns-in-None-clause-every
returns-in-None-clause-every c = λ z wide e. absurd (no_wide c.args.text.now z c.in-None.ensures e)
