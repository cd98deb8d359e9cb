use Rattle.std.proofs.Common.{arith}
use Rattle.coordination.proofs.Boxes.{step_put}
use Rattle.coordination.proofs.net_box.push_step.Goals as goal

pub returns : goal.returns
returns c = step_put c.args.stars.now c.args.from c.index-stars-from.result c.push.new.self c.args.step (omega arith) c.in_ok-push.ensures.items
