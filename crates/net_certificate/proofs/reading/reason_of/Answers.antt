use Rattle.std.proofs.Common.{Some, sym, ap, ◌∙◌}
use Rattle.std.proofs.lemmas.{Int.to_z-of_z, Bool.true≢false, Option.none-some}
use mir.Syntax.{w128}
use Rattle.net_certificate.specs.declared.items.NoMap.TheVariants.{Different, Long, Wide}
use Rattle.net_certificate.proofs.RowForms.{is_different, reason_told, no_reason_at}
use Rattle.net_certificate.proofs.reading.reason_of.Goals as goal

pub returns-then-is_word-clause-found : goal.returns-then-is_word-clause-found
returns-then-is_word-clause-found c = is_different c.args.text.now (c.is_word.ensures.found c.if-is_word.true)

pub returns-then-is_word-clause-every : goal.returns-then-is_word-clause-every
returns-then-is_word-clause-every c = λ why told e. reason_told c.args.text.now Different why tt told
    (is_different c.args.text.now (c.is_word.ensures.found c.if-is_word.true)) e

pub returns-in-Some-clause-every : goal.returns-in-Some-clause-every
returns-in-Some-clause-every c = λ why told e. reason_told c.args.text.now (Long c.in-Some.entries) why c.in-Some.ensures.form told c.in-Some.ensures.found e

pub returns-in-Some-value_of-clause-every : goal.returns-in-Some-value_of-clause-every
returns-in-Some-value_of-clause-every c = λ why told e. ap (λ z. Some (Wide z)) (to_z-of_z w128 c.in-Some-value_of.value c.in-Some-value_of.ensures.wide)
    ∙ reason_told c.args.text.now (Wide c.in-Some-value_of.value) why c.in-Some-value_of.ensures.wide told c.in-Some-value_of.ensures.found e

pub returns-in-None-value_of-clause-every : goal.returns-in-None-value_of-clause-every
returns-in-None-value_of-clause-every c =
    λ why told e. absurd (no_reason_at c.args.text.now (λ is. true≢false (sym (c.is_word.ensures.every is) ∙ c.if-is_word.false))
    (λ n short is. none-some n (c.in-None.ensures.every n short is)) (λ z wide is. none-some z (c.in-None-value_of.ensures.every z wide is)) why told e)
