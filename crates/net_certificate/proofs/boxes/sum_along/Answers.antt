use Rattle.std.proofs.Common.{arith, subst, sym}
use Rattle.integers.specs.Vectors.{IsWithin}
use Rattle.standard_map.{specs.CellBounds.most_cell, proofs.CallerLemmas.room_within, proofs.CallerLemmas.sum_within}
use Rattle.net_certificate.specs.Tables.{most_steps, most_way}
use Rattle.net_certificate.proofs.boxes.sum_along.Goals as goal

pub sum-requires : goal.sum-requires
sum-requires c =
    room_within most_steps most_cell c.args.cells.now c.args.k.now c.requires.steps c.requires.first c.requires.second c.requires.third (omega arith)

pub returns-clause-within : goal.returns-clause-within
returns-clause-within c = subst (IsWithin most_way) (sym c.sum.ensures)
    (sum_within most_steps most_cell c.args.cells.now c.args.k.now c.requires.steps c.requires.first c.requires.second c.requires.third)
