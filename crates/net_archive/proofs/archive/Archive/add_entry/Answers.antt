-- Of `add_entry`: the clause `fault`; invariants.
use Rattle.std.proofs.Common.{◌∙◌, List, ℕ, sym, subst}
use Rattle.std.specs.List.{Contains}
use Rattle.archive_text.specs.{Entries.EntryView, Entries.entry_view, Lookups.names_of}
use Rattle.net_archive.specs.Adding.{IsEntryFault, IsFull, IsTaken}
use Rattle.net_archive.specs.Archives.{ArchiveView, IsArchive, IsBody, with_entry}
use Rattle.net_archive.specs.declared.faults.AddFault.TheVariants.{NameTaken, Full}
use Rattle.net_archive.proofs.NewEntry.{grown, is_free, long_full, longer_body, many_full, not_long, not_many}
use Rattle.net_archive.proofs.archive.Archive.add_entry.Goals.{then-are_many-via-then-are_many, then-are_many-via-else-are_many+then-is_too_long}
use Rattle.net_archive.proofs.archive.Archive.add_entry.Goals as goal

pub returns-then-has_name-clause-fault : goal.returns-then-has_name-clause-fault
returns-then-has_name-clause-fault c =
    let e : EntryView = entry_view c.args.entry in let there = c.has_name.ensures.0 c.if-has_name.true in
    subst (λ (b : ArchiveView). IsEntryFault b e NameTaken) c.self.view_is
    (subst (λ (name : List ℕ). Contains (names_of c.self.inside.entries) name) c.deref.ensures.value there)

pub returns-then-are_many-clause-fault : goal.returns-then-are_many-clause-fault
returns-then-are_many-clause-fault c =
    let a : ArchiveView = record { version = c.self.inside.version; entries = c.self.inside.entries } in
    let e : EntryView = entry_view c.args.entry in
    let none = is_free (names_of a.entries) c.deref.result.now c.has_name.result c.has_name.ensures c.if-has_name.false in
    let free : ¬ IsTaken a e.name = subst (λ (name : List ℕ). ¬ Contains (names_of a.entries) name) c.deref.ensures.value none in
    let full : IsFull a e = elim c.then-are_many.branch [
      | then-are_many-via-then-are_many w ↦ many_full a e c.as_slice.result.now c.are_many.result c.as_slice.ensures c.are_many.ensures w.if-are_many.true
      | then-are_many-via-else-are_many+then-is_too_long w ↦
          long_full a e w.deref-else-are_many.result.now w.deref-else-are_many-2.result.now w.is_too_long.result
          (w.deref-else-are_many.ensures.value ∙ c.self.invariant.is_body)
          (w.deref-else-are_many-2.ensures.value ∙ c.in_ok-rows.ensures) w.is_too_long.ensures w.if-is_too_long.true
    ] in
    subst (λ (b : ArchiveView). IsEntryFault b e Full) c.self.view_is (free, full)

pub invariant_of-self-2 : goal.invariant_of-self-2
invariant_of-self-2 c =
    let a : ArchiveView = record { version = c.self.inside.version; entries = c.self.inside.entries } in
    let e : EntryView = entry_view c.args.entry in
    let none = is_free (names_of a.entries) c.deref.result.now c.has_name.result c.has_name.ensures c.if-has_name.false in
    let free : ¬ Contains (names_of a.entries) e.name = subst (λ (name : List ℕ). ¬ Contains (names_of a.entries) name) c.deref.ensures.value none in
    let few = not_many a e c.as_slice.result.now c.are_many.result c.as_slice.ensures c.are_many.ensures c.if-are_many.false in
    let body : IsBody a c.deref-else-are_many.result.now = c.deref-else-are_many.ensures.value ∙ c.self.invariant.is_body in
    let rows = c.deref-else-are_many-2.ensures.value ∙ c.in_ok-rows.ensures in
    let fits = not_long a e c.deref-else-are_many.result.now c.deref-else-are_many-2.result.now c.is_too_long.result body rows c.is_too_long.ensures
    c.if-is_too_long.false in
    let archive : IsArchive (with_entry a e) = grown a e c.self.invariant.is_archive c.requires free few fits in
    let longer : IsBody (with_entry a e) c.append-appended.new.body.items =
    longer_body a e c.self.inside.body.items c.deref-2.result.now c.append-appended.new.body.items c.self.invariant.is_body
    (c.deref-2.ensures.value ∙ c.in_ok-rows.ensures) c.in_ok-appended.ensures.body in record {
      is_archive = subst (λ (es : List EntryView). IsArchive (record { version = a.version; entries = es })) (sym c.in_ok-appended.ensures.entries) archive;
      is_body = subst (λ (es : List EntryView). IsBody (record { version = a.version; entries = es }) c.append-appended.new.body.items)
          (sym c.in_ok-appended.ensures.entries) longer;
    }
