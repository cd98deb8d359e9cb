-- Of `group_from`: the clauses `none` and `some`. `there` and `same` are what they share.
use Rattle.std.proofs.Common.{◌≡◌, ◌<◌, ◌≤◌, ◌+◌, ℕ, List, length, slice_get, Some, ap, sym, subst, ◌∙◌, arith}
use Rattle.archive_text.specs.{Entries.entry_view, Entries.entry_views, Groups.numbers_at, Groups.numbers_with, declared.entry.Entry.Entry}
use Rattle.archive_text.proofs.KeyNumbers.{entry_there, numbers_there, no_group, some_group}
use Rattle.archive_text.proofs.all.Entries.group_from.Goals.{After-places-places}
use Rattle.archive_text.proofs.all.Entries.group_from.Goals as goal

-- the entry stands at the place
there : (c : After-places-places) → slice_get c.args.self.now c.args.place ≡ Some (entry_view c.index.result.now)
there c = entry_there c.self.inside.items.items c.args.self.now c.self.view_is c.args.place c.index.result.now c.index.ensures c.requires

-- the numbers with its key, in the entries as they are lent
same : (c : After-places-places) (lent : List Entry) → lent ≡ c.self.inside.items.items → let key = c.index.result.now.key in
    numbers_at (entry_views lent) key c.places-places.result.now ≡ numbers_with key c.args.self.now
same c lent is =
    numbers_there c.self.inside.items.items c.args.self.now c.self.view_is lent c.self.inside.names c.self.inside.keys c.index.result.now.key
    c.numbers.result.now c.key_print.result c.places-places.result.now is c.self.invariant c.numbers.ensures c.key_print.ensures c.places-places.ensures

pub returns-in_default-clause-none : goal.returns-in_default-clause-none
returns-in_default-clause-none c =
    let found = (goal.at.returns-in_default-clause-none c).After-places-places in
    let first = c.in_default.ensures ∙ ap (λ ns. slice_get ns 0) (same found c.deref.result.now c.deref.ensures.value) in
    no_group c.args.self.now c.args.place (entry_view c.index.result.now) (there found) (λ begins two. let e = first ∙ begins in cc)

pub returns-then-first-place-clause-none : goal.returns-then-first-place-clause-none
returns-then-first-place-clause-none c =
    let found = (goal.at.returns-then-first-place-clause-none c).After-places-places in
    let first = c.in-Some.ensures ∙ ap (λ ns. slice_get ns 0) (same found c.deref.result.now c.deref.ensures.value) in
    no_group c.args.self.now c.args.place (entry_view c.index.result.now) (there found)
    (λ begins two. let e : Some c.in-Some.first ≡ Some (c.args.place + 1) = first ∙ begins in c.if-first-place.true (cc))

pub returns-then-len-lt-FEWEST-clause-none : goal.returns-then-len-lt-FEWEST-clause-none
returns-then-len-lt-FEWEST-clause-none c =
    let found = (goal.at.returns-then-len-lt-FEWEST-clause-none c).After-places-places in
    let all = c.in_ok-numbers.ensures ∙ same found c.deref-2.result.now c.deref-2.ensures.value in
    let few : length c.in_ok-numbers.numbers.items < 2 = omega (arith, c.if-len-lt-FEWEST.true, c.len.ensures) in
    let fewer : length (numbers_with c.index.result.now.key c.args.self.now) < 2 = subst (λ ns. length ns < 2) all few in
    no_group c.args.self.now c.args.place (entry_view c.index.result.now) (there found) (λ begins two. omega (arith, fewer, two))

pub returns-clause-some : goal.returns-clause-some
returns-clause-some c =
    let found = (goal.at.returns-clause-some c).After-places-places in
    let all = c.in_ok-numbers.ensures ∙ same found c.deref-2.result.now c.deref-2.ensures.value in
    let begins = ap (λ ns. slice_get ns 0) (same found c.deref.result.now c.deref.ensures.value) in
    let first = sym (c.in-Some.ensures ∙ begins) ∙ ap (λ (n : ℕ). Some n) c.if-first-place.false in
    let two : 2 ≤ length c.in_ok-numbers.numbers.items = omega (arith, c.if-len-lt-FEWEST.false, c.len.ensures) in
    some_group c.args.self.now c.args.place c.index.result.now.key c.in_ok-numbers.numbers.items all first two
