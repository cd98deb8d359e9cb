use Rattle.std.proofs.Common.{◌≡◌, ◌∙◌, List, map, length, sym, ap, arith}
use Rattle.std.proofs.lemmas.List.Sorted.{length_permutation}
use Rattle.archive_text.specs.{Entries.EntryView, Entries.entry_views, declared.entry.Entry.Entry, Regrouped.regrouped}
use Rattle.archive_text.{specs.Fingerprints.name_print, specs.Fingerprints.key_print, proofs.Regrouping.is_regrouped}
use Rattle.archive_text.proofs.all.Entries.regroup.Goals as goal

pub invariant_of-self : goal.invariant_of-self
invariant_of-self c =
    let old = entry_views c.self.inside.items.items in
    let now : entry_views c.regroup.new.grouped.items ≡ regrouped old = c.regroup.ensures.grouped in
    record {
      few = omega (arith, ap length now, length_permutation old (regrouped old) (is_regrouped old).same_entries, c.self.invariant.few);
      by_name = c.in_ok-names.ensures.names ∙ ap (λ (items : List Entry). map (λ (e : EntryView). name_print e.name) (regrouped (entry_views items)))
          c.deref.ensures.value ∙ ap (map (λ (e : EntryView). name_print e.name)) (sym now);
      by_key = c.in_ok-names.ensures.keys ∙ ap (λ (items : List Entry). map (λ (e : EntryView). key_print e.key) (regrouped (entry_views items)))
          c.deref.ensures.value ∙ ap (map (λ (e : EntryView). key_print e.key)) (sym now);
    }
