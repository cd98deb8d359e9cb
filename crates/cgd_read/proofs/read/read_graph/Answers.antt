-- Of `read_graph`: what `judge` and `finish` require; the clause `graph`.
use Rattle.std.proofs.Common.{◌≡◌, ◌∷◌, ◌∙◌, ◌≤◌, None, sym, subst, length}
use Rattle.periodic_net.specs.Limits.{most_vertices}
use Rattle.cgd_read.specs.{Views.line_view, Views.raw_view, Faults.rows_in, Faults.fault_of}
use Rattle.cgd_read.proofs.Graphs.{rows_read, few_fields, still_rows, AllSound, make_lines, ends_with_rows}
use Rattle.cgd_read.proofs.read.read_graph.Goals as goal

pub judge-requires-clause-room : goal.judge-requires-clause-room
judge-requires-clause-room c =
    let i = c.loop-line.invariant in
    subst (λ names. length names ≤ most_vertices) (sym i.stands.graph.names) (make_lines i.earlier i.sound).few_vertices

pub finish-requires : goal.finish-requires
finish-requires c =
    let i = c.loop-line.invariant in let line = line_view c.in-Some.line in
    let none : fault_of i.earlier line ≡ None = sym (c.in_ok-kind.ensures.fault i.earlier i.stands) ∙ c.in_default-2.is in
    let sound : AllSound (line ∷ i.earlier) = (record { fault = none; small = c.in-Some.ensures.small; flat = c.in-Some.ensures.flat }, i.sound) in
    let stands = c.in_ok-kind.ensures.stands c.in_default-2.is i.earlier i.stands in
    subst (λ n. n ≤ 5) (sym stands.graph.size) (few_fields (rows_in (line ∷ i.earlier)) (make_lines (line ∷ i.earlier) sound))

pub returns-then-is_end-clause-graph : goal.returns-then-is_end-clause-graph
returns-then-is_end-clause-graph c =
    let i = c.loop-line.invariant in let line = line_view c.in-Some.line in
    let none : fault_of i.earlier line ≡ None = sym (c.in_ok-kind.ensures.fault i.earlier i.stands) ∙ c.in_default-2.is in
    let sound : AllSound (line ∷ i.earlier) = (record { fault = none; small = c.in-Some.ensures.small; flat = c.in-Some.ensures.flat }, i.sound) in
    let stands = c.in_ok-kind.ensures.stands c.in_default-2.is i.earlier i.stands in
    let rows = rows_in (line ∷ i.earlier) in
    let some = still_rows i.earlier line (ends_with_rows i.earlier line none (sym c.is_end.ensures ∙ c.if-is_end.true)) in
    rows_read rows (raw_view c.in_ok-finish.field-0) (make_lines (line ∷ i.earlier) sound) some (c.in_ok-finish.ensures rows stands.graph)
