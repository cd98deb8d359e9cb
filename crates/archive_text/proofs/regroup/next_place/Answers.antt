use Rattle.std.proofs.Common.{◌≡◌, ◌∙◌, ℤ, List, Option, ℕ, Some, sym, ap, map, unwrap_or}
use Rattle.std.specs.List.{position}
use Rattle.archive_text.specs.{Entries.EntryView, Lookups.same_key, Regrouped.place_after, Regrouped.last_of}
use Rattle.archive_text.proofs.Regrouping.{places_agree, last_image}
use Rattle.archive_text.proofs.regroup.next_place.Goals as goal

pub returns-in-len1-up-clause-next : goal.returns-in-len1-up-clause-next
returns-in-len1-up-clause-next g c =
    let f = g.T.Keyed.entry in let grouped = c.args.grouped.now in let left = c.args.left.now in
    let last = c.last-item.result in
    let last_is : last_of (map f grouped) ≡ Some (f last) = last_image f grouped last c.in-len1-up.len_at_least c.last-item.is in
    c.unwrap_or.ensures
    ∙ ap (λ (o : Option ℕ). unwrap_or o 0) (c.place_with.ensures ∙ ap (λ (k : List ℤ). position (λ item. same_key (f item).key k) left) c.key.ensures
    ∙ sym (places_agree (λ (e : EntryView). same_key e.key (f last).key) f left))
    ∙ ap (λ o. place_after o (map f left)) (sym last_is)
