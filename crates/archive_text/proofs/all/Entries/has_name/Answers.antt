use Rattle.std.proofs.Common.{◌↔◌, ◌∙◌, ap, subst, IsTrue, Contains, List}
use Rattle.std.specs.{List.list_any, Str.bytes_eq}
use Rattle.archive_text.specs.{Places.places_of, Entries.EntryView, Entries.entry_views, Lookups.names_of, Lookups.entries_at, declared.entry.Entry.Entry}
use Rattle.archive_text.proofs.KeyNumbers.{name_found, name_told}
use Rattle.archive_text.proofs.all.Entries.has_name.Goals as goal

pub returns : goal.returns
returns c =
    let name = c.args.name.now in let places = c.places-places.result.now in
    let views = entry_views c.self.inside.items.items in
    let here = c.places-places.ensures ∙ ap (places_of c.self.inside.names) c.name_print.ensures in
    let lent = ap (λ (es : List Entry). list_any (bytes_eq name) (names_of (entries_at (entry_views es) places))) c.deref.ensures.value in
    let told = c.has_name_at.ensures ∙ lent ∙ name_found views name places c.self.inside.names c.self.invariant.by_name here in
    subst (λ (es : List EntryView). IsTrue c.has_name_at.result ↔ Contains (names_of es) name) c.self.view_is (name_told views c.has_name_at.result name told)
