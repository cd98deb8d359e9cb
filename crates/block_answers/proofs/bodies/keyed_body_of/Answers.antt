use Rattle.std.proofs.{Common.[], lemmas.Result.IfOk-weaker}
use Rattle.block_answers.proofs.bodies.keyed_body_of.Goals as goal

pub returns-in-Graph-clause-told : goal.returns-in-Graph-clause-told
returns-in-Graph-clause-told c = rw c.in-Graph.is (IfOk-weaker c.key_net.result _ _ (λ keyed h. h []) c.key_net.ensures.told)
