-- Of `outcomes_of`: the loop over `block`; the clause `outcomes`.
use Rattle.std.proofs.Common.{◌+◌, ◌++◌, ◌∷◌, [], List, sym, subst}
use Rattle.std.proofs.lemmas.List.Elements.{All-nil}
use Rattle.cgd_read.specs.Views.{views}
use Rattle.net_archive.specs.Archives.{IsEntry}
use Rattle.net_report.specs.{KindsTold.AreKindsOfAll, declared.command.Command.TheVariants.Key, declared.outcome.Outcome.Outcome}
use Rattle.net_report.proofs.CallerLemmas.{kinds_last}
use Rattle.block_answers.proofs.Listing.{AreOutcomesOn, outcomes_next, outcomes_none, outcomes_whole}
use Rattle.block_answers.proofs.outcomes.outcomes_of.Goals as goal

pub loop-block-init : goal.loop-block-init
loop-block-init c =
    let none = sym c.new-keyed.ensures.outcomes in
    record {
      outcomes = subst (AreOutcomesOn [] Key (views c.args.found.now) 0 1) none (outcomes_none [] Key (views c.args.found.now));
      kinds = subst (AreKindsOfAll c.new-keyed.result.outcomes) (sym c.new-keyed.ensures.kinds) (subst (λ (os : List Outcome). AreKindsOfAll os []) none tt);
    }

pub loop-block-preserved : goal.loop-block-preserved
loop-block-preserved c =
    let found = c.args.found.now in let at = c.loop-block in let i = at.block-index in
    let os = at.keyed.outcomes in let o = c.in_ok-outcome.outcome in
    let longer = sym c.in_ok-push.ensures.outcomes in
    record {
      outcomes = subst (AreOutcomesOn [] Key (views found) (i + 1) (at.number + 1)) longer
          (outcomes_next [] Key found i at.number os c.block-item.result o c.loop-block-test.true c.block-item.is at.invariant.outcomes
          c.in_ok-outcome.ensures.outcome c.in_ok-outcome.ensures.printable);
      kinds = subst (AreKindsOfAll c.push.new.self.outcomes) (sym c.in_ok-push.ensures.kinds)
          (subst (λ (ps : List Outcome). AreKindsOfAll ps (at.keyed.kinds.items ++ c.in_ok-outcome.kinds ∷ [])) longer
          (kinds_last os at.keyed.kinds.items o c.in_ok-outcome.kinds at.invariant.kinds c.in_ok-outcome.ensures.kinds));
    }

pub returns-clause-outcomes : goal.returns-clause-outcomes
returns-clause-outcomes c =
    let at = c.loop-block in
    outcomes_whole [] Key c.args.found.now at.block-index at.number at.keyed.outcomes c.loop-block-test.false at.invariant.outcomes
    (All-nil IsEntry) c.requires.graphs
