use Rattle.std.proofs.Common.{sym, ◌∙◌, true, false}
use Rattle.cgd_lex.proofs.Ends.{run_size, kind_by}
use Rattle.cgd_lex.proofs.part.measure_run.Goals as goal

pub returns-then-is_whole_run-clause-size : goal.returns-then-is_whole_run-clause-size
returns-then-is_whole_run-clause-size c = c.run_length-size.ensures.length ∙ sym (run_size c.args.others.now)

pub returns-else-is_whole_run-clause-size : goal.returns-else-is_whole_run-clause-size
returns-else-is_whole_run-clause-size c = c.run_length-size.ensures.length ∙ sym (run_size c.args.others.now)

pub returns-then-is_whole_run-clause-kind : goal.returns-then-is_whole_run-clause-kind
returns-then-is_whole_run-clause-kind c = kind_by c.args.first c.args.others.now c.run_length-size.result true c.run_length-size.ensures.length
    (sym c.if-is_whole_run.true ∙ c.is_whole_run.ensures)

pub returns-else-is_whole_run-clause-kind : goal.returns-else-is_whole_run-clause-kind
returns-else-is_whole_run-clause-kind c = kind_by c.args.first c.args.others.now c.run_length-size.result false c.run_length-size.ensures.length
    (sym c.if-is_whole_run.false ∙ c.is_whole_run.ensures)
