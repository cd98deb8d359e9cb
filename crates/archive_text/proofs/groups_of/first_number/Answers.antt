-- Of `first_number`: the number that is found.
use Rattle.std.proofs.Common.{◌∙◌, ap, get_or, slice_get, sym}
use Rattle.archive_text.{specs.Entries.entry_view, specs.Entries.entry_views, proofs.KeyNumbers.lent_there, proofs.KeyNumbers.number_first}
use Rattle.archive_text.proofs.groups_of.first_number.Goals as goal

pub returns-in-len1-up : goal.returns-in-len1-up
returns-in-len1-up c =
    let es = c.args.entries.now in let left = c.loop-left.left.now in let e = c.in-Some.entry.now in let found = c.in-Some.ensures.lookup in
    let first = number_first (entry_views es) c.args.key.now left (entry_view e) c.in-len1-up.len_at_least
    (lent_there es (get_or left 0 0) e found.0 found.1) c.if-has_key.ensures in
    sym (ap (λ ns. slice_get ns 0) (c.loop-left.invariant ∙ first))
