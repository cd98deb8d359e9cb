use Rattle.std.proofs.Common.{rules, ◌≡◌, ◌∙◌, ap₂}
use Rattle.std.proofs.lemmas.Result.{IfOk-weaker}
use Rattle.clap.specs.Words.{rule_of, with_rule}
use Rattle.command_words.specs.Grammar.{archive_rule, cell_rule, name_rule}
use Rattle.command_words.proofs.grammar.grammar.Goals as goal

pub returns : goal.returns
returns c =
    let archive_is : rule_of c.long.result ≡ archive_rule = search rules in
    let name_is : rule_of c.long-2.result ≡ name_rule = search rules in
    let cell_is : rule_of c.long-3.result ≡ cell_rule = search rules in
    let first = c.in_ok-arg.ensures.shape (search rules) ∙ ap₂ with_rule c.bare_grammar.ensures c.new.ensures.rule in
    let second = c.in_ok-arg-2.ensures.shape (search rules) ∙ ap₂ with_rule first c.new-2.ensures.rule in
    let third = c.in_ok-arg-3.ensures.shape (search rules) ∙ ap₂ with_rule second archive_is in
    let fourth = c.in_ok-arg-4.ensures.shape (search rules) ∙ ap₂ with_rule third name_is in
    IfOk-weaker c.arg-5.result _ _ (λ r h. h.shape (search rules) ∙ ap₂ with_rule fourth cell_is) c.arg-5.ensures
