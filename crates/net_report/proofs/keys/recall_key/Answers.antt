use Rattle.std.proofs.Common.{rules, get_or, pos, sym, subst, All, FitsSigned}
use Rattle.std.specs.Int.{w128}
use Rattle.std.proofs.lemmas.{List.take_all, List.take_more, List.Elements.All-push}
use Rattle.line_text.specs.Numbers.{IsWide}
use Rattle.net_report.proofs.keys.recall_key.Goals as goal

pub loop-number-preserved : goal.loop-number-preserved
loop-number-preserved c =
    let xs = c.numbers-number-items.result.now in let i = c.loop-number.number-index in
    let fits : FitsSigned w128 (get_or xs i (pos 0)) = search rules in
    subst (All IsWide) (sym (take_more xs i (pos 0) c.loop-number-test.true)) (All-push IsWide _ _ c.loop-number.invariant fits)

pub returns : goal.returns
returns c =
    subst (All IsWide) c.numbers-number-items.ensures
    (subst (All IsWide) (take_all c.loop-number.number-index c.numbers-number-items.result.now c.loop-number-test.false) c.loop-number.invariant)
