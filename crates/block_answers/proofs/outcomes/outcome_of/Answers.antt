use Rattle.cgd_read.specs.Views.{body_view}
use Rattle.block_answers.proofs.Printing.{told_of_body}
use Rattle.block_answers.proofs.outcomes.outcome_of.Goals as goal

pub returns-clause-printable : goal.returns-clause-printable
returns-clause-printable c = told_of_body c.args.archive.now.entries c.args.command
    (body_view c.args.block.now.body) c.in_ok-body.body.told c.in_ok-body.ensures.told
