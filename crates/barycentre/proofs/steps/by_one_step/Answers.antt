-- Of `by_one_step`: what it ensures.
use Rattle.std.proofs.lemmas.Result.{err_from_is_err_and}
use Rattle.barycentre.proofs.steps.by_one_step.Goals as goal

pub returns-in_err-units : goal.returns-in_err-units
returns-in_err-units g c =
    let told = err_from_is_err_and c.from_residual.result c.from_residual.ensures.1 in
    record { positive = rw told.1 tt; normal = rw told.1 tt; limits = rw told.1 tt }

pub returns-else-are_normal : goal.returns-else-are_normal
returns-else-are_normal g c = record { positive = tt; normal = tt; limits = tt }

pub returns-in-None : goal.returns-in-None
returns-in-None g c = record { positive = tt; normal = tt; limits = tt }
