use Rattle.net_cover.proofs.CellRows.{read_spelled, spelled_read}
use Rattle.net_cover.proofs.cells_are_read.Goals as goal

pub returns : goal.returns
returns c = record { theorem = λ word R. (read_spelled word R, spelled_read word R) }
