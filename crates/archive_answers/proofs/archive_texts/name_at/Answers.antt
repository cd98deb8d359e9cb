use Rattle.std.proofs.Common.{◌∙◌, sym, ap, ltb-false, ltb-true}
use Rattle.std.specs.List.{slice_get}
use Rattle.archive_text.specs.Entries.{entry_views}
use Rattle.archive_answers.{specs.ArchiveTexts.name_of, proofs.ItemOutcomes.name_there, proofs.ItemOutcomes.no_name}
use Rattle.archive_answers.proofs.archive_texts.name_at.Goals as goal

pub returns-in-None : goal.returns-in-None
returns-in-None c =
    let items = c.args.entries.now in
    no_name items c.saturating_sub.result (ltb-false _ _ (sym c.in-None.ensures.lookup.0))
    ∙ ap (λ i. name_of (slice_get (entry_views items) i)) c.saturating_sub.ensures

pub returns-in-Some : goal.returns-in-Some
returns-in-Some c =
    let items = c.args.entries.now in
    c.deref.ensures.value
    ∙ name_there items c.saturating_sub.result c.in-Some.entry.now (ltb-true _ _ (sym c.in-Some.ensures.lookup.0)) c.in-Some.ensures.lookup.1
    ∙ ap (λ i. name_of (slice_get (entry_views items) i)) c.saturating_sub.ensures
