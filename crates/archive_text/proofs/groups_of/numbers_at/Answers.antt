-- Of `numbers_at`: the loop over `left`, if a number is put last.
use Rattle.std.proofs.Common.{◌∙◌, ◌+◌, ◌++◌, ◌∷◌, [], ◌-◌, ap, append_assoc, drop, get_or, length, sym, take}
use Rattle.archive_text.specs.{Entries.entry_view, Entries.entry_views, Groups.numbers_at}
use Rattle.archive_text.proofs.KeyNumbers.{lent_there, number_first}
use Rattle.archive_text.proofs.groups_of.numbers_at.Goals as goal

pub loop-left-preserved-in_ok-push : goal.loop-left-preserved-in_ok-push
loop-left-preserved-in_ok-push c =
    let es = c.args.entries.now in let key = c.args.key.now in let left = c.loop-left.left.now in let numbers = c.loop-left.numbers.items in
    let e = c.in-Some.entry.now in let found = c.in-Some.ensures.lookup in let place = get_or left 0 0 in
    let rest = numbers_at (entry_views es) key (take (length left - 1) (drop 1 left)) in
    let first = number_first (entry_views es) key left (entry_view e) c.in-len1-up.len_at_least (lent_there es place e found.0 found.1) c.if-has_key.ensures in
    c.loop-left.invariant ∙ ap (λ ns. numbers ++ ns) first ∙ sym (append_assoc numbers ((place + 1) ∷ []) rest)
    ∙ ap (λ ns. ns ++ rest) (sym c.in_ok-push.ensures.items)
