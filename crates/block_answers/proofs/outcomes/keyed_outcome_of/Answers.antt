use Rattle.std.proofs.Common.{[]}
use Rattle.cgd_read.specs.Views.{body_view}
use Rattle.net_report.specs.declared.command.Command.TheVariants.{Key}
use Rattle.block_answers.proofs.Printing.{told_of_body}
use Rattle.block_answers.proofs.outcomes.keyed_outcome_of.Goals as goal

pub returns-clause-printable : goal.returns-clause-printable
returns-clause-printable c = told_of_body [] Key (body_view c.args.block.now.body) c.in_ok-body.body c.in_ok-body.ensures.told
