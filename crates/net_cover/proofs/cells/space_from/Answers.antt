use Rattle.std.proofs.Common.{◌≡◌, List, ℤ, length, Option, Some, None}
use Rattle.std.specs.Prelude.{IfSome}
use Rattle.integers.specs.Vectors.{Vector}
use Rattle.net_cover.specs.{Cells.cell_view, declared.cell.Cell.Cell, CellWords.row_in, CellWords.AreNumbersOf}
use Rattle.net_cover.proofs.CellRows.{AreSmall, space_of}
use Rattle.net_cover.proofs.cells.space_from.Goals as goal

-- the cell of the rows that nine numbers make is that of the numbers
found : (zs : List ℤ) (a b c : Vector) → a ≡ row_in zs 0 → b ≡ row_in zs 3 → c ≡ row_in zs 6 → length zs ≡ 9 → (o : Option Cell)
    → IfSome o (λ R. R ≡ cell_view 3 a b c)
    → IfSome o (λ R. AreSmall a b c) → IfSome o (AreNumbersOf zs)
found zs a b c ea eb ec l (Some R) e s = space_of zs a b c ea eb ec l R e s
found zs a b c ea eb ec l None e s = e

pub returns-clause-cell : goal.returns-clause-cell
returns-clause-cell c =
    let s = c.space_cell.ensures in
    found c.args.numbers.now c.row_at-a.result c.row_at-b.result c.row_at-c.result c.row_at-a.ensures c.row_at-b.ensures c.row_at-c.ensures
    c.if-numbers-ne9.false c.space_cell.result s.cell s.small
