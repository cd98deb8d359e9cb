-- Of `add_accepted`: what it ensures.
use Rattle.std.{proofs.lemmas.Result.err_from_is_err_and, specs.Prelude.option_copied}
use Rattle.cgd_read.specs.Views.{views}
use Rattle.answers.proofs.Additions.{all_accepted, all_are_first}
use Rattle.answers.proofs.adding.add_accepted.Goals as goal

pub returns-in_ok-refused_text-in-Err-clause-answer : goal.returns-in_ok-refused_text-in-Err-clause-answer
returns-in_ok-refused_text-in-Err-clause-answer c = record {
  accepted = all_accepted _ 1 (views c.args.found.now) c.args.outcomes.now c.requires.outcomes c.requires.accepted;
  number = c.in-Err.refused.block;
  fault = c.in-Err.refused.fault;
  not_added = (c.in-Err.ensures.fault c.in_ok-refused_text-in-Err.ensures.told).0;
  told = c.in_ok-refused_text-in-Err.ensures.told;
  text_is = c.in_ok-refused_text-in-Err.ensures.text;
}

pub returns-in_ok-refused_text-in-Err-clause-archive : goal.returns-in_ok-refused_text-in-Err-clause-archive
returns-in_ok-refused_text-in-Err-clause-archive c =
    let told = c.in_ok-refused_text-in-Err.ensures.told in (c.in-Err.refused.block, c.in-Err.refused.fault, told, c.in-Err.ensures.fault told)

pub returns-in_ok-text-in-Ok : goal.returns-in_ok-text-in-Ok
returns-in_ok-text-in-Ok c =
    let added = c.in-Ok.ensures.added in
    record { answer = record { longer = c.add_all.new.archive; added = added; text_is = c.in_ok-text-in-Ok.ensures }; archive = added }

pub returns-in_err-text-in-Ok : goal.returns-in_err-text-in-Ok
returns-in_err-text-in-Ok c =
    let told = err_from_is_err_and c.from_residual.result c.from_residual.ensures.1 in
    let first = all_are_first (option_copied c.args.given) (views c.args.found.now) c.args.archive.now c.add_all.new.archive c.in-Ok.ensures.added in
    record { answer = rw told.1 tt; archive = rw told.1 first }

pub returns-in_err-refused_text-in-Err : goal.returns-in_err-refused_text-in-Err
returns-in_err-refused_text-in-Err c =
    let at = c.from_residual-in_err-refused_text-in-Err in let told = err_from_is_err_and at.result at.ensures.1 in
    record { answer = rw told.1 tt; archive = rw told.1 c.in-Err.ensures.first }
