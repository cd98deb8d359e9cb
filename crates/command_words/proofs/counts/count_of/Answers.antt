-- Of `count_of`: what it ensures.
use Rattle.std.proofs.Common.{◌≡◌, ◌∙◌, ℕ, true, sym, ap, subst}
use Rattle.std.{proofs.lemmas.Bool.true≢false, specs.Result.result_ok, specs.Str.Parse.digits_value}
use Rattle.command_words.proofs.FewNets.{count_is, count_parsed, no_count}
use Rattle.command_words.specs.Tasks.{is_count}
use Rattle.command_words.proofs.counts.count_of.Goals as goal

pub returns-then-is_count : goal.returns-then-is_count
returns-then-is_count c = count_is c.args.word.now c.in_ok-n.n (sym c.is_count.ensures ∙ c.if-is_count.true)

pub returns-else-is_count : goal.returns-else-is_count
returns-else-is_count c =
    let word = c.args.word.now in
    no_count word (λ h.
    let read = count_parsed word (digits_value 10 word) c.parse.result h c.parse.ensures.value.0 in
    let found = sym c.in_ok-n.was ∙ c.ok.ensures.value ∙ ap result_ok read in
    let same : c.in_ok-n.n ≡ digits_value 10 word = cc in
    let yes = subst (λ (n : ℕ). is_count word n ≡ true) (sym same) h in
    true≢false (sym yes ∙ sym c.is_count.ensures ∙ c.if-is_count.false))

pub returns-in_err-n : goal.returns-in_err-n
returns-in_err-n c =
    let word = c.args.word.now in
    c.from_residual.ensures ∙ no_count word (λ h.
    let read = count_parsed word (digits_value 10 word) c.parse.result h c.parse.ensures.value.0 in
    let found = sym c.in_err-n.was ∙ c.ok.ensures.value ∙ ap result_ok read in
    cc)
