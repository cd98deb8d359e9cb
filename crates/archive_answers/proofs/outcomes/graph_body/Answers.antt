use Rattle.std.proofs.Common.{◌∙◌, ℕ, List, ap}
use Rattle.net_report.specs.declared.outcome.OutcomeBody.TheVariants.{Refused}
use Rattle.archive_answers.proofs.ItemOutcomes.{keyed_as, refused_as}
use Rattle.archive_answers.proofs.outcomes.graph_body.Goals as goal

pub returns-in-Ok-clause-told : goal.returns-in-Ok-clause-told
returns-in-Ok-clause-told c =
    let size = c.of-size.ensures in
    keyed_as c.args.graph c.args.repeats c.of-size.result size.size size.is_graph _ c.in-Ok.ensures.graph c.in-Ok.ensures.keyed

pub returns-in_ok-body-in-Err-clause-told : goal.returns-in_ok-body-in-Err-clause-told
returns-in_ok-body-in-Err-clause-told c =
    let size = c.of-size.ensures in let body = c.in_ok-body-in-Err.ensures in
    let told = body.told ∙ ap (λ (ns : List (List ℕ)). Refused c.of-size.result ns c.in-Err.refusal) c.new-names.ensures in
    refused_as c.args.graph c.args.repeats c.of-size.result size.size size.is_graph c.in-Err.refusal c.in_ok-body-in-Err.body c.in-Err.ensures.refused
    told body.refused
