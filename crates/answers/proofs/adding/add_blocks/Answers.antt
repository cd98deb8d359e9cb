-- Of `add_blocks`: what it ensures.
use Rattle.std.proofs.Common.{IfOk, MatchResult, refl, sym, subst, ◌∙◌}
use Rattle.std.proofs.lemmas.Result.{err_from_is_err_and}
use Rattle.std.specs.Prelude.{option_copied}
use Rattle.cgd_read.specs.Views.{views}
use Rattle.answers.{specs.Due.HasBecome, specs.Due.HasFirstOf, specs.Due.IsAddedOrRefused, proofs.Additions.none_are_first}
use Rattle.answers.proofs.adding.add_blocks.Goals as goal

pub returns-in_err-keyed : goal.returns-in_err-keyed
returns-in_err-keyed c =
    let told = err_from_is_err_and c.from_residual.result c.from_residual.ensures.1 in
    let none = none_are_first (option_copied c.args.name) (views c.args.found.now) c.args.archive.now c.recall.ensures in
    record { answer = rw told.1 tt; archive = rw told.1 none }

pub returns-in_err-report : goal.returns-in_err-report
returns-in_err-report c =
    let told = err_from_is_err_and c.from_residual-in_err-report.result c.from_residual-in_err-report.ensures.1 in
    let none = none_are_first (option_copied c.args.name) (views c.args.found.now) c.args.archive.now c.recall.ensures in
    record { answer = rw told.1 tt; archive = rw told.1 none }

pub returns-then-not-are_accepted : goal.returns-then-not-are_accepted
returns-then-not-are_accepted c = record {
  answer = record {
    outcomes = c.in_ok-keyed.keyed.outcomes;
    are_outcomes = c.in_ok-keyed.ensures.outcomes;
    all = sym c.if-not-are_accepted.true ∙ c.are_accepted.ensures;
    report = c.in_ok-report.ensures;
  };
  archive = refl;
}

pub returns : goal.returns
returns c =
    let blocks = views c.args.found.now in let old = c.args.archive.now in let new = c.add_accepted.new.archive in
    let r = c.add_accepted.result in let named = c.given_bytes.ensures in
    record {
      answer = subst (λ g. IfOk r (λ a. IsAddedOrRefused g blocks old a.status a.text.items)) named c.add_accepted.ensures.answer;
      archive = subst (λ g. MatchResult r (λ a. HasBecome g blocks old a.status new) (λ e. HasFirstOf g blocks old new)) named
          c.add_accepted.ensures.archive;
    }
