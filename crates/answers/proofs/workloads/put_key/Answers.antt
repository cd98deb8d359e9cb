use Rattle.answers.proofs.Summaries.{put_in}
use Rattle.answers.proofs.workloads.put_key.Goals as goal

pub returns : goal.returns
returns c = put_in c.args.key c.args.keys.now.keys c.insert.new.self.keys c.in_ok-insert.ensures.keys
