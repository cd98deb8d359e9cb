use Rattle.std.proofs.Common.{◌∙◌, map, ap, Bor}
use Rattle.archive_text.specs.{Entries.EntryView, Entries.entry_view, Fingerprints.name_print, Fingerprints.key_print, declared.entry.Entry.Entry}
use Rattle.archive_text.proofs.Regrouping.{images_of_views}
use Rattle.archive_text.proofs.in_groups.indexes_in_groups.Goals as goal

pub returns-clause-names : goal.returns-clause-names
returns-clause-names c =
    c.in_ok-names.ensures ∙ ap (map (λ (e : Bor Entry). name_print (entry_view e.now).name)) c.deref.ensures.value
    ∙ images_of_views (λ (e : EntryView). name_print e.name) c.in_ok-lent.lent.items
    ∙ ap (map (λ (e : EntryView). name_print e.name)) c.in_ok-lent.ensures

pub returns-clause-keys : goal.returns-clause-keys
returns-clause-keys c =
    c.in_ok-keys.ensures ∙ ap (map (λ (e : Bor Entry). key_print (entry_view e.now).key)) c.deref-2.ensures.value
    ∙ images_of_views (λ (e : EntryView). key_print e.key) c.in_ok-lent.lent.items
    ∙ ap (map (λ (e : EntryView). key_print e.key)) c.in_ok-lent.ensures
