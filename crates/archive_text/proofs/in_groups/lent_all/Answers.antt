-- Of `lent_all`: the loop over `entry`.
use Rattle.std.proofs.Common.{◌∙◌, ◌+◌, ◌++◌, ◌∷◌, [], Bor, List, ap, length, map, sym, take}
use Rattle.std.proofs.lemmas.List.{length_push, map_more, map_push}
use Rattle.archive_text.specs.{Entries.EntryView, Entries.entry_view, Entries.entry_views, declared.entry.Entry.Entry}
use Rattle.archive_text.proofs.in_groups.lent_all.Goals as goal

pub loop-entry-preserved : goal.loop-entry-preserved
loop-entry-preserved c =
    let entries = c.args.entries.now in let i = c.loop-entry.entry-index in let e = c.entry-item.result in let lent = c.loop-entry.lent.items in
    let pushed = c.in_ok-push.ensures.items in
    record {
      views = ap (map (λ (b : Bor Entry). entry_view b.now)) pushed ∙ map_push (λ (b : Bor Entry). entry_view b.now) lent _
          ∙ ap (λ (vs : List EntryView). vs ++ entry_view e ∷ []) c.loop-entry.invariant.views
          ∙ ap (λ (x : Entry). entry_views (take i entries) ++ entry_view x ∷ []) c.entry-item.is
          ∙ sym (map_more entry_view entries i e c.loop-entry-test.true);
      count = ap length pushed ∙ length_push lent _ ∙ ap (λ k. k + 1) c.loop-entry.invariant.count;
    }
