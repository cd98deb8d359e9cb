-- Of `finish_entry`: what `judge` requires; what it ensures.
use Rattle.archive_text.specs.{Entries.entry_view, Texts.rows_before}
use Rattle.net_archive.proofs.FirstFaults.{judged, result_both, rows_told}
use Rattle.net_archive.proofs.{NewEntry.are_edges, NewEntry.one_more_entry, OneFault.matched_error}
use Rattle.net_archive.specs.{Causes.of_rows, Judging.IsEntryOfForm, Judging.IsJudged, Steps.AreMore, Steps.IsFaultTold}
use Rattle.net_archive.proofs.reading.finish_entry.Goals as goal

pub judge-requires-clause-edges : goal.judge-requires-clause-edges
judge-requires-clause-edges c =
    let r = c.requires in
    are_edges c.args.version c.args.name.now c.in_ok-form.form (c.in_ok-form.ensures.rest r.text r.rows c.args.name.now r.is_name r.at).whole.formed

pub judge-requires-clause-line : goal.judge-requires-clause-line
judge-requires-clause-line c =
    let r = c.requires in
    (c.in_ok-form.ensures.rest r.text r.rows c.args.name.now r.is_name r.at).within

pub returns : goal.returns
returns c = λ text es good begun line.
    let v = c.args.version in let name = c.args.name.now in
    let has = c.in_ok-form.ensures.rest text (rows_before v es) name begun.is_name begun.at in
    result_both c.judge.result (λ e. IsEntryOfForm v name c.in_ok-form.form (entry_view e)) (λ e. AreMore v text es (entry_view e) c.read_rest.new.lines)
    (IsJudged v c.args.line c.in_ok-form.form) (IsFaultTold v text)
    (λ e of. one_more_entry v text es name c.in_ok-form.form c.read_rest.new.lines (entry_view e) good begun.may has of)
    (λ fault is. judged v text es name c.read_rest.new.lines c.in_ok-form.form c.args.line fault good begun.may has line is) c.judge.ensures.entry
    c.judge.ensures.fault

pub returns-in_err-form : goal.returns-in_err-form
returns-in_err-form c = λ text es good begun line.
    let v = c.args.version in let name = c.args.name.now in let fault = c.in_err-form.field-0.0 in
    matched_error _ (IsFaultTold v text) (of_rows fault) c.from_residual.result c.from_residual.ensures.1
    (rows_told v text es name fault good begun.may (c.in_err-form.ensures.rest text (rows_before v es) name begun.is_name begun.at))
