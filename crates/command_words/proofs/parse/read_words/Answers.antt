use Rattle.std.proofs.Common.{◌≡◌, ◌∙◌, sym, ap, Some}
use Rattle.clap.specs.Words.{App, app_of, found_of, is_simple, matches_of}
use Rattle.clap.specs.Faults.{fault_of, is_simple_and_free}
use Rattle.command_words.proofs.Parses.{has_fault, said_none, said_ok, texts_valid}
use Rattle.command_words.{specs.Words.texts_of, specs.Grammar.grammar, proofs.Rows.free, proofs.Rows.simple}
use Rattle.command_words.proofs.parse.read_words.Goals as goal

pub returns-in-Ok : goal.returns-in-Ok
returns-in-Ok c =
    let app_is : app_of c.in_ok-grammar.field-0 ≡ grammar = c.in_ok-grammar.ensures in
    let words = texts_of c.args.words.now in
    let passes = c.in-Ok.ensures.kinds (ap is_simple_and_free app_is ∙ free) in
    let found = c.in-Ok.ensures.matches (ap is_simple app_is ∙ simple) in
    ap Some c.said_in.ensures ∙ said_ok (found_of c.in-Ok.matches) words (texts_valid c.args.words.now)
    (ap (λ (a : App). fault_of a words) (sym app_is) ∙ passes)
    (found.0 ∙ ap (λ (a : App). matches_of a words) app_is)

pub returns-in_ok-refuse-in-Err : goal.returns-in_ok-refuse-in-Err
returns-in_ok-refuse-in-Err c =
    let app_is : app_of c.in_ok-grammar.field-0 ≡ grammar = c.in_ok-grammar.ensures in
    let words = texts_of c.args.words.now in
    let kinds = c.in-Err.ensures.kinds (ap is_simple_and_free app_is ∙ free) in
    said_none words (texts_valid c.args.words.now)
    (λ e. has_fault _ c.in-Err.error kinds c.in_ok-refuse-in-Err.ensures (ap (λ (a : App). fault_of a words) app_is ∙ e))
