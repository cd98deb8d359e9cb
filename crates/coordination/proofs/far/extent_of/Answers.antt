use Rattle.std.proofs.lemmas.Result.{err_from_is_err_and}
use Rattle.coordination.proofs.Boxes.{farthest_extent}
use Rattle.coordination.proofs.far.extent_of.Goals as goal

pub returns-clause-extent : goal.returns-clause-extent
returns-clause-extent g c =
    farthest_extent c.args.cell.now.graph (record { x = c.in_ok-farthest.field-0; y = c.in_ok-farthest-2.field-0; z = c.in_ok-farthest-3.field-0 })
    c.in_ok-farthest.ensures.walks c.in_ok-farthest-2.ensures.walks
    c.in_ok-farthest-3.ensures.walks

pub returns-in_err-farthest : goal.returns-in_err-farthest
returns-in_err-farthest g c =
    let told = err_from_is_err_and c.from_residual.result c.from_residual.ensures.1 in
    record { extent = rw told.1 tt; narrow = rw told.1 tt }

pub returns-in_err-farthest-2 : goal.returns-in_err-farthest-2
returns-in_err-farthest-2 g c =
    let told = err_from_is_err_and c.from_residual-in_err-farthest-2.result c.from_residual-in_err-farthest-2.ensures.1 in
    record { extent = rw told.1 tt; narrow = rw told.1 tt }

pub returns-in_err-farthest-3 : goal.returns-in_err-farthest-3
returns-in_err-farthest-3 g c =
    let told = err_from_is_err_and c.from_residual-in_err-farthest-3.result c.from_residual-in_err-farthest-3.ensures.1 in
    record { extent = rw told.1 tt; narrow = rw told.1 tt }
