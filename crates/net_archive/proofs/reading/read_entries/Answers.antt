-- Of `read_entries`: what it ensures; the loop over `version`.
use Rattle.std.proofs.{Common.◌++◌, Common.sym, Common.◌∙◌, Common.subst, lemmas.Bool.eqb-true}
use Rattle.line_text.specs.Lines.{rows_text}
use Rattle.archive_text.specs.{Entries.entry_view, Texts.rows_before}
use Rattle.net_archive.{specs.Steps.AreRead, specs.Steps.IsFaultTold, proofs.OneFault.matched_error}
use Rattle.net_archive.proofs.Ahead.{some_text, less_after, whole_text, read_more}
use Rattle.net_archive.proofs.reading.read_entries.Goals as goal

pub returns-in_err-entry : goal.returns-in_err-entry
returns-in_err-entry c = λ text at.
    matched_error _ (IsFaultTold c.args.version text) c.in_err-entry.field-0.0 c.from_residual.result c.from_residual.ensures.1
    (c.in_err-entry.ensures text (c.loop-version.invariant.at text at))

pub loop-version-smaller : goal.loop-version-smaller
loop-version-smaller c =
    let v = c.args.version in let es = c.loop-version.entries in
    let text = rows_text (rows_before v es) ++ c.loop-version.lines.rest in
    let at = some_text v es c.loop-version.lines c.loop-version.invariant.number in
    less_after v text es (entry_view c.in_ok-entry.entry) c.loop-version.lines c.read_entry.new.lines at (c.in_ok-entry.ensures text at)

pub loop-version-preserved : goal.loop-version-preserved
loop-version-preserved c =
    subst (λ l. AreRead c.args.version c.args.lines.now c.read_entry.new.lines l) (sym c.in_ok-push.ensures.ok)
    (read_more c.args.version c.args.lines.now c.loop-version.lines c.read_entry.new.lines c.loop-version.entries
    (entry_view c.in_ok-entry.entry) c.loop-version.invariant c.in_ok-entry.ensures)

pub returns : goal.returns
returns c = λ text at. (
  c.loop-version.invariant.good,
  whole_text c.args.version text c.loop-version.entries c.loop-version.lines (c.loop-version.invariant.at text at)
      (eqb-true _ 0 (sym c.is_empty.ensures ∙ c.loop-version-test.false)),
)
