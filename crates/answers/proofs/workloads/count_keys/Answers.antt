use Rattle.std.proofs.Common.{sym}
use Rattle.answers.{specs.KeyLists.lists_in, proofs.Summaries.none_next, proofs.Summaries.put_next}
use Rattle.answers.{proofs.workloads.count_keys.Goals.in-Some+in_ok-put_key, proofs.workloads.count_keys.Goals.in_default}
use Rattle.answers.proofs.workloads.count_keys.Goals as goal

pub loop-outcome-preserved : goal.loop-outcome-preserved
loop-outcome-preserved c =
    let os = c.args.outcomes.now in let i = c.loop-outcome.outcome-index in let o = c.outcome-item.result in
    let keys = lists_in c.loop-outcome.keys in
    elim c.match-key_told.branch [
      | in-Some+in_ok-put_key w ↦
          rw w.keys-is
          (put_next os i o keys (lists_in w.put_key.new.keys) w.in-Some.key.now c.loop-outcome-test.true (sym c.outcome-item.is) c.loop-outcome.invariant
          (sym w.in-Some.ensures) w.in_ok-put_key.ensures)
      | in_default w ↦ rw w.keys-is (none_next os i o keys c.loop-outcome-test.true (sym c.outcome-item.is) c.loop-outcome.invariant (sym w.in_default.ensures))
    ]
