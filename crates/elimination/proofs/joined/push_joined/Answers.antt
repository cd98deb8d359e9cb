use Rattle.std.proofs.{Common.refl, lemmas.Result.err_from_is_err_and}
use Rattle.elimination.proofs.Loops.{joined_pushed}
use Rattle.elimination.proofs.joined.push_joined.Goals as goal

pub returns-clause-values : goal.returns-clause-values
returns-clause-values g c = λ v k h s.
    rw c.in_ok-push.ensures.items (joined_pushed c.args.joined.now.items v c.args.i k h _ c.requires.below refl s)

pub returns-in_err-push : goal.returns-in_err-push
returns-in_err-push g c =
    let told = err_from_is_err_and c.from_residual.result c.from_residual.ensures.1 in
    record { below = rw told.1 tt; rising = rw told.1 tt; values = λ v k h s. rw told.1 tt }
