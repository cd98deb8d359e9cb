use Rattle.std.proofs.{Common.◌∙◌, Common.sym, lemmas.Bool.true≢false}
use Rattle.net_cover.specs.CellWords.{cell_numbers}
use Rattle.net_cover.proofs.CellRows.{numbers_few, numbers_wide, spelled_after}
use Rattle.net_cover.proofs.cells.find_cell.Goals as goal

pub returns-then-branch-clause-none : goal.returns-then-branch-clause-none
returns-then-branch-clause-none c = λ e R s.
    let q = c.in_ok-read_joined.ensures.every (cell_numbers R) (numbers_wide R s.written) (numbers_few R) (spelled_after c.args.word.now R s) in
    c.cell_from.ensures.none e R (record { written = s.written; are = c.deref.ensures.value ∙ q.1 })

pub returns-clause-none : goal.returns-clause-none
returns-clause-none c = λ e R s.
    let q = c.in_ok-read_joined.ensures.every (cell_numbers R) (numbers_wide R s.written) (numbers_few R) (spelled_after c.args.word.now R s) in
    true≢false (sym q.0 ∙ c.if-branch.false)
