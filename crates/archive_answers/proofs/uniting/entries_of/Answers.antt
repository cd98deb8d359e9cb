-- Of `entries_of`: that indices are inside; what `entry_told` requires; the loop over `i`.
use Rattle.std.proofs.Common.{◌+◌, [], ◌∷◌, List, take, sym, subst, arith}
use Rattle.std.proofs.lemmas.List.Elements.{All-append, All-cons, All-nil}
use Rattle.std.specs.List.{All}
use Rattle.net_archive.specs.Archives.{IsEntry}
use Rattle.net_report.proofs.CallerLemmas.{as_many_kinds, kinds_at}
use Rattle.archive_text.specs.{Entries.entry_view, Entries.entry_views, declared.entry.Entry.Entry}
use Rattle.archive_answers.{specs.ItemEntries.AreEntriesTold, proofs.ItemEntries.entries_next}
use Rattle.archive_answers.proofs.uniting.entries_of.Goals as goal

abbrev IsGood : Entry → Type 0
IsGood e = IsEntry (entry_view e)

pub bounds-kinds-i : goal.bounds-kinds-i
bounds-kinds-i c = let n = as_many_kinds c.args.outcomes.now c.args.kinds.now c.requires.kinds in omega (arith, n, c.loop-i-test.true)

pub entry_told-requires-clause-kinds : goal.entry_told-requires-clause-kinds
entry_told-requires-clause-kinds c =
    kinds_at c.args.outcomes.now c.args.kinds.now c.loop-i.i c.index-outcomes-i.result c.index-kinds-i.result c.requires.kinds c.loop-i-test.true
    (sym c.index-outcomes-i.is) (sym c.index-kinds-i.is)

pub loop-i-preserved : goal.loop-i-preserved
loop-i-preserved c =
    let os = c.args.outcomes.now in let at = c.loop-i in let i = at.i in let e = c.in_ok-entry_told.field-0 in
    let pushed = sym {A = List Entry} c.in_ok-push.ensures.items in
    record {
      told = subst (λ (es : List Entry). AreEntriesTold (take (i + 1) os) (entry_views es)) pushed
          (entries_next os i c.index-outcomes-i.result at.entries.items e c.loop-i-test.true
          (sym c.index-outcomes-i.is) at.invariant.told c.in_ok-entry_told.ensures.told);
      each = subst (All IsGood) pushed (All-append IsGood at.entries.items (e ∷ []) at.invariant.each
          (All-cons IsGood e [] c.in_ok-entry_told.ensures.entry (All-nil IsGood)));
    }
