use Rattle.std.proofs.Common.{All, refl, sym, subst}
use Rattle.std.proofs.lemmas.{Option.none-some, List.Elements.All-push}
use Rattle.archive_text.{specs.Forms.IsShort, proofs.KeyNumbers.one_more_number, proofs.KeyNumbers.first_left}
use Rattle.archive_text.proofs.shells.short_numbers.Goals as goal

pub returns-in-None-clause-none : goal.returns-in-None-clause-none
returns-in-None-clause-none c = λ sizes all e.
    let first = first_left c.loop-left.sizes.items sizes c.loop-left.left.now c.args.numbers.now _ _ c.loop-left.invariant.0 e all c.in-len1-up.len_at_least
    refl in
    none-some first.value (c.in-None.ensures.every first.value first.short first.is)

pub loop-left-preserved : goal.loop-left-preserved
loop-left-preserved c = (
  one_more_number c.loop-left.sizes.items c.push.new.self.items c.loop-left.left.now c.args.numbers.now c.in-Some.size _ c.loop-left.invariant.0
      c.in-len1-up.len_at_least c.in-Some.ensures.found c.in_ok-push-in-Some.ensures.items,
  subst (All IsShort) (sym c.in_ok-push-in-Some.ensures.items)
      (All-push IsShort c.loop-left.sizes.items c.in-Some.size c.loop-left.invariant.1 c.in-Some.ensures.form),
)
