use Rattle.std.proofs.Common.{◌≡◌, ◌+◌, ◌++◌, ◌∙◌, ℕ, List, drop, get_or, ap, sym}
use Rattle.std.proofs.lemmas.{List.append_assoc, List.at_drop_more, Result.err_from_is_err_and}
use Rattle.archive_text.specs.Entries.{entry_views}
use Rattle.net_report.specs.Headers.{quoted_name}
use Rattle.archive_answers.specs.ArchiveTexts.{group_names, name_at}
use Rattle.archive_answers.proofs.archive_texts.push_group_names.Goals as goal

pub loop-number-preserved : goal.loop-number-preserved
loop-number-preserved c =
    let views = entry_views c.args.entries.now in let group = c.args.group.now in let i = c.loop-number.number-index in
    let old = c.loop-number.text.items in let left = group_names views (drop (i + 1) group) in
    let name = quoted_name (name_at views (get_or group i 0)) in
    let next : group_names views (drop i group) ≡ name ++ left = at_drop_more (group_names views) group i 0 c.loop-number-test.true in
    ap (λ (l : List ℕ). l ++ left) (c.in_ok-push_quoted.ensures ∙ ap (λ (n : List ℕ). old ++ quoted_name n) c.name_at.ensures)
    ∙ append_assoc old name left ∙ ap (λ (l : List ℕ). old ++ l) (sym next) ∙ c.loop-number.invariant

pub returns-in_err-push_quoted : goal.returns-in_err-push_quoted
returns-in_err-push_quoted c = let told = err_from_is_err_and c.from_residual.result c.from_residual.ensures.1 in rw told.1 tt
