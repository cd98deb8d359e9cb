use Rattle.std.proofs.Common.{◌∙◌, ap, List}
use Rattle.archive_text.specs.{Places.places_of, Entries.entry_views, Lookups.names_with, Lookups.entries_at}
use Rattle.archive_text.{specs.Fingerprints.key_print, specs.declared.entry.Entry.Entry, proofs.KeyNumbers.keys_found}
use Rattle.archive_text.proofs.all.Entries.lookup.Goals as goal

pub returns : goal.returns
returns c =
    let key = c.args.key.now in let places = c.places-places.result.now in
    let views = entry_views c.self.inside.items.items in
    let here = c.places-places.ensures ∙ ap (places_of c.self.inside.keys) (c.key_print.ensures ∙ ap key_print c.numbers.ensures) in
    let lent = ap (λ (es : List Entry). names_with key (entries_at (entry_views es) places)) c.deref.ensures.value in
    c.new.ensures ∙ lent ∙ keys_found views key places c.self.inside.keys c.self.invariant.by_key here ∙ ap (names_with key) c.self.view_is
