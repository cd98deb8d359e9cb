use Rattle.std.proofs.Common.{◌∙◌, sym, ap}
use Rattle.cgd_read.specs.Faults.{word_tests, row_tests, count_tests, or_later}
use Rattle.cgd_read.specs.Units.{first_true}
use Rattle.cgd_read.{specs.Views.line_view, proofs.Decided.first_of_three}
use Rattle.cgd_read.proofs.state.State.judge.Goals as goal

pub returns-in-Some-clause-fault : goal.returns-in-Some-clause-fault
returns-in-Some-clause-fault c = λ earlier s.
    let line = line_view c.args.line.now in let counts = count_tests earlier line in
    ap (λ o. or_later o (first_true counts)) (sym c.in-Some.is ∙ c.fault_before.ensures earlier s)
    ∙ sym (first_of_three (word_tests earlier line) (row_tests earlier line) counts)

pub returns-in_ok-keep-in-None-clause-fault : goal.returns-in_ok-keep-in-None-clause-fault
returns-in_ok-keep-in-None-clause-fault c = λ earlier s.
    let line = line_view c.args.line.now in let counts = count_tests earlier line in
    c.count_fault.ensures earlier (c.in_ok-keep-in-None.ensures.stands earlier s)
    ∙ ap (λ o. or_later o (first_true counts)) (sym c.in-None.is ∙ c.fault_before.ensures earlier s)
    ∙ sym (first_of_three (word_tests earlier line) (row_tests earlier line) counts)
