-- Of `entries_of`: the clauses `found` and `every`.
use Rattle.std.proofs.Common.{◌≡◌, ℕ, pos, sym, ◌∙◌}
use Rattle.std.proofs.lemmas.{Int.to_z-of_z, Option.none-some}
use mir.Syntax.{w128}
use mir.Val.{of_z, to_z}
use Rattle.line_text.proofs.CallerLemmas.{some_from}
use Rattle.net_certificate.specs.{Rows.reason_text, declared.items.NoMap.TheVariants.Long}
use Rattle.net_certificate.proofs.RowForms.{told_wide, is_long, long_digits, long_number, no_long}
use Rattle.net_certificate.proofs.reading.entries_of.Goals as goal

pub returns-in-Some-read_number-clause-found : goal.returns-in-Some-read_number-clause-found
returns-in-Some-read_number-clause-found c = some_from c.short.result (λ (k : ℕ). to_z w128 (of_z w128 c.in-Some-read_number.n) ≡ pos k)
    (λ (k : ℕ). c.args.text.now ≡ reason_text (Long k))
    (λ k e. is_long c.args.text.now c.in-Some.digits.now c.in-Some-read_number.n k c.in-Some.ensures c.in-Some-read_number.ensures.spelling
    (sym (to_z-of_z w128 c.in-Some-read_number.n c.in-Some-read_number.ensures.wide) ∙ e)) c.short.ensures.found

pub returns-in-Some-read_number-clause-every : goal.returns-in-Some-read_number-clause-every
returns-in-Some-read_number-clause-every c = λ n short e. c.short.ensures.every n short
    (to_z-of_z w128 c.in-Some-read_number.n c.in-Some-read_number.ensures.wide
    ∙ long_number c.args.text.now c.in-Some.digits.now c.in-Some-read_number.n n c.in-Some.ensures c.in-Some-read_number.ensures.spelling
    c.in-Some-read_number.ensures.wide short e)

pub returns-in-None-read_number-clause-every : goal.returns-in-None-read_number-clause-every
returns-in-None-read_number-clause-every c =
    λ n short e. absurd (none-some (pos n) (c.in-None-read_number.ensures.every (pos n) (told_wide n short)
    (long_digits c.args.text.now c.in-Some.digits.now n c.in-Some.ensures e)))

pub returns-in-None-clause-every : goal.returns-in-None-clause-every
returns-in-None-clause-every c = λ n short e. absurd (no_long c.args.text.now n c.in-None.ensures e)
