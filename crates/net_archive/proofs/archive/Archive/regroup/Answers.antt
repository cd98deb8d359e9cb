use Rattle.std.proofs.Common.{◌∙◌, List, sym, ap, subst}
use Rattle.std.specs.List.{All}
use Rattle.periodic_net.specs.Maps.{BareIso, Iso}
use Rattle.key_theory.proofs.CallerLemmas.{keys_decide, keys_decide_bare}
use Rattle.line_text.specs.Lines.{rows_text}
use Rattle.archive_text.specs.{Entries.EntryView, Texts.entry_lines, Regrouped.regrouped}
use Rattle.net_archive.{specs.Archives.IsEntry, proofs.NewEntry.all_in_memory, proofs.IsoGroups.regrouped_together, proofs.IsoGroups.regrouped_archive}
use Rattle.net_archive.proofs.archive.Archive.regroup.Goals as goal

pub rows_in_groups-requires : goal.rows_in_groups-requires
rows_in_groups-requires c =
    all_in_memory c.as_slice.result.now (subst (λ (es : List EntryView). All IsEntry es) (sym c.as_slice.ensures) c.self.invariant.is_archive.each)

pub invariant_of-self-2 : goal.invariant_of-self-2
invariant_of-self-2 c =
    let v = c.self.inside.version in
    let rows = c.in_ok-body.ensures ∙ ap (λ (es : List EntryView). rows_text (entry_lines v (regrouped es))) c.as_slice.ensures in
    regrouped_archive v c.self.inside.entries _ c.self.inside.body.items c.in_ok-body.body.items c.self.invariant c.in_ok-regroup.ensures.ok rows

pub returns-clause-isomorphic : goal.returns-clause-isomorphic
returns-clause-isomorphic c =
    regrouped_together Iso keys_decide c.self.inside.entries c.regroup.new.self c.self.invariant.is_archive.each c.in_ok-regroup.ensures.ok

pub returns-clause-bare : goal.returns-clause-bare
returns-clause-bare c =
    regrouped_together BareIso keys_decide_bare c.self.inside.entries c.regroup.new.self c.self.invariant.is_archive.each c.in_ok-regroup.ensures.ok

pub returns-clause-archive : goal.returns-clause-archive
returns-clause-archive c =
    let v = c.self.inside.version in
    let rows = c.in_ok-body.ensures ∙ ap (λ (es : List EntryView). rows_text (entry_lines v (regrouped es))) c.as_slice.ensures in
    (regrouped_archive v c.self.inside.entries _ c.self.inside.body.items c.in_ok-body.body.items c.self.invariant c.in_ok-regroup.ensures.ok rows).is_archive
