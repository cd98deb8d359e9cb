-- Of `outcomes_of`: the loop over `item`.
use Rattle.std.proofs.Common.{◌∙◌, ◌++◌, ◌∷◌, [], List, length, All, refl, sym, ap, subst, arith, rules}
use Rattle.std.{proofs.lemmas.List.append_assoc, proofs.lemmas.List.length-append, specs.Vec.Iter.into_iter_items}
use Rattle.std.proofs.lemmas.List.Elements.{All-append, All-cons, All-nil}
use Rattle.keyline_import.specs.declared.item.Item.{Item}
use Rattle.net_report.specs.{KindsTold.AreKindsOfAll, Reports.IsPrintable, declared.outcome.Outcome.Outcome}
use Rattle.net_report.proofs.CallerLemmas.{kinds_last}
use Rattle.archive_answers.proofs.ItemOutcomes.{AreOutcomesOfRead, outcomes_more, outcomes_none}
use Rattle.archive_answers.proofs.outcomes.outcomes_of.Goals as goal

pub loop-item-init : goal.loop-item-init
loop-item-init c =
    let none = sym c.new-keyed.ensures.outcomes in
    record {
      all = search rules;
      left = search rules;
      number = refl;
      told = subst (AreOutcomesOfRead 1 []) none outcomes_none;
      kinds = subst (AreKindsOfAll c.new-keyed.result.outcomes) (sym c.new-keyed.ensures.kinds) (subst (λ (os : List Outcome). AreKindsOfAll os []) none tt);
      printable = subst (All IsPrintable) none (All-nil IsPrintable);
    }

pub loop-item-preserved : goal.loop-item-preserved
loop-item-preserved c =
    let at = c.loop-item in let x = c.in-Some.item in let os = at.keyed.outcomes in
    let o = c.in_ok-outcome.outcome in let ks = c.in_ok-outcome.kinds in
    let later = into_iter_items c.next.new.self in
    let steps = c.in-Some.ensures.steps in let pushed = sym c.in_ok-push.ensures.outcomes in
    record {
      all = append_assoc at.yielded (x ∷ []) later ∙ ap (λ (l : List Item). at.yielded ++ l) (sym steps.0) ∙ at.invariant.all;
      left = let was = at.invariant.left in let gone = steps.1 in let short = ap length steps.0 in omega (arith, was, gone, short);
      number = let was = at.invariant.number in let long = length-append at.yielded (x ∷ []) in omega (arith, was, long);
      told = subst (AreOutcomesOfRead 1 (at.yielded ++ x ∷ [])) pushed
          (outcomes_more at.yielded os at.number x o at.invariant.told at.invariant.number c.in_ok-outcome.ensures.outcome);
      kinds = subst (AreKindsOfAll c.push.new.self.outcomes) (sym c.in_ok-push.ensures.kinds)
          (subst (λ (ps : List Outcome). AreKindsOfAll ps (at.keyed.kinds.items ++ ks ∷ [])) pushed
          (kinds_last os at.keyed.kinds.items o ks at.invariant.kinds c.in_ok-outcome.ensures.kinds));
      printable = subst (All IsPrintable) pushed (All-append IsPrintable os (o ∷ []) at.invariant.printable
          (All-cons IsPrintable o [] c.in_ok-outcome.ensures.printable (All-nil IsPrintable)));
    }
