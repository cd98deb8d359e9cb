use Rattle.std.proofs.lemmas.Result.{IfOk-weaker}
use Rattle.command_words.{specs.Views.said_view, proofs.FewNets.few_nets}
use Rattle.command_words.proofs.tasks.task_of.Goals as goal

pub returns-in-Some-clause-few : goal.returns-in-Some-clause-few
returns-in-Some-clause-few c = IfOk-weaker c.task_in.result _ _ (λ found e. few_nets (said_view c.in-Some.said) found e) c.task_in.ensures
