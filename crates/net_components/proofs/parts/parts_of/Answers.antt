use Rattle.std.proofs.Common.{rules, ◌++◌, [], ◌∷◌, take, List, sym, subst}
use Rattle.net_components.{specs.Components.Component, specs.Written.IsMadeOf, specs.declared.parts.Part.Part, proofs.OneAnswer.part_fault}
use Rattle.net_components.{proofs.OneAnswer.take_more}
use Rattle.integers.{proofs.lists.Matched.matched_more, specs.Lists.AreMatched}
use Rattle.net_components.proofs.parts.parts_of.Goals as goal

pub returns-in_err-part-clause-fault : goal.returns-in_err-part-clause-fault
returns-in_err-part-clause-fault g c =
    let k = c.recall.ensures in
    let w = part_fault c.args.g.now k.is_graph k.small c.args.components.now c.requires c.loop-component.component-index c.component-item.result
    c.loop-component-test.true c.component-item.is
    c.loop-component.parts.items c.loop-component.invariant c.in_err-part.field-0.0 c.in_err-part.ensures.wide in
    search rules

pub loop-component-preserved : goal.loop-component-preserved
loop-component-preserved g c =
    let G = c.args.g.now in let cs = c.args.components.now in let i = c.loop-component.component-index in
    let d = c.component-item.result in
    subst (λ (ds : List Component). AreMatched (IsMadeOf G) ds c.push.new.parts.items)
    (sym (take_more cs i d c.loop-component-test.true (sym c.component-item.is)))
    (subst (λ (ps : List Part). AreMatched (IsMadeOf G) (take i cs ++ d ∷ []) ps) (sym c.in_ok-push.ensures)
    (matched_more (IsMadeOf G) (take i cs) c.loop-component.parts.items c.loop-component.invariant d c.in_ok-part.part c.in_ok-part.ensures.made))
