use Rattle.std.proofs.Common.{◌≡◌, ◌+◌, ◌++◌, ◌∷◌, ◌∙◌, ℕ, List, drop, ap, sym}
use Rattle.std.proofs.lemmas.{List.append_assoc, List.at_drop_more, Result.err_from_is_err_and}
use Rattle.coordination.specs.Sequences.{numbers_in}
use Rattle.archive_text.specs.Entries.{entry_views}
use Rattle.archive_answers.specs.ArchiveTexts.{group_lines, group_text}
use Rattle.archive_answers.proofs.archive_texts.push_groups.Goals as goal

pub loop-group-preserved : goal.loop-group-preserved
loop-group-preserved c =
    let views = entry_views c.args.entries.now in let groups = c.args.groups.now in let i = c.loop-group.group-index in
    let group = c.group-item.result in let old = c.loop-group.text.items in let left = group_lines views (numbers_in (drop (i + 1) groups)) in
    let next : group_lines views (numbers_in (drop i groups)) ≡ group_text views group.items ++ left =
    at_drop_more (λ gs. group_lines views (numbers_in gs)) groups i group c.loop-group-test.true
    ∙ ap (λ g. group_lines views (numbers_in (g ∷ drop (i + 1) groups))) (sym c.group-item.is) in
    ap (λ (l : List ℕ). l ++ left) (c.in_ok-push_group.ensures ∙ ap (λ (g : List ℕ). old ++ group_text views g) c.deref.ensures.value)
    ∙ append_assoc old (group_text views group.items) left ∙ ap (λ (l : List ℕ). old ++ l) (sym next) ∙ c.loop-group.invariant

pub returns-in_err-push_group : goal.returns-in_err-push_group
returns-in_err-push_group c = let told = err_from_is_err_and c.from_residual.result c.from_residual.ensures.1 in rw told.1 tt
