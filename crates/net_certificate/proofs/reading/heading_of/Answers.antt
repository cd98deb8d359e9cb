use Rattle.std.proofs.{Common.sym, Common.◌∙◌, lemmas.Bool.true≢false, lemmas.Option.none-some}
use Rattle.net_certificate.proofs.RowForms.{map_is, map_told, heading_told, no_heading}
use Rattle.net_certificate.proofs.reading.heading_of.Goals as goal

pub returns-then-is_word-clause-found : goal.returns-then-is_word-clause-found
returns-then-is_word-clause-found c = map_is c.args.text.now (c.is_word.ensures.found c.if-is_word.true)

pub returns-then-is_word-clause-every : goal.returns-then-is_word-clause-every
returns-then-is_word-clause-every c = λ h told e. map_told c.args.text.now h (map_is c.args.text.now (c.is_word.ensures.found c.if-is_word.true)) e

pub returns-in-Some-clause-every : goal.returns-in-Some-clause-every
returns-in-Some-clause-every c = λ h told e. heading_told c.args.text.now c.in-Some.why h c.in-Some.ensures.form c.in-Some.ensures.found told e

pub returns-in-None-clause-every : goal.returns-in-None-clause-every
returns-in-None-clause-every c =
    λ h told e. absurd (no_heading c.args.text.now (λ is. true≢false (sym (c.is_word.ensures.every is) ∙ c.if-is_word.false))
    (λ why may is. none-some why (c.in-None.ensures.every why may is)) h told e)
