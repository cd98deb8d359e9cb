use Rattle.std.proofs.Common.{◌++◌, ◌∙◌}
use Rattle.line_text.specs.Lines.{rows_text}
use Rattle.archive_text.specs.Texts.{rows_before}
use Rattle.net_archive.proofs.Ahead.{after_name, some_text}
use Rattle.net_archive.proofs.reading.read_entry.Goals as goal

pub finish_entry-requires : goal.finish_entry-requires
finish_entry-requires c =
    let v = c.args.version in let es = c.args.entries.now in
    let text = rows_text (rows_before v es) ++ c.args.lines.now.rest in
    after_name v text es c.in_ok-name.name.now c.begin_entry.new.lines (c.in_ok-name.ensures v text (some_text v es c.args.lines.now c.requires.number))

pub returns : goal.returns
returns c = λ text at. c.finish_entry.ensures text c.args.entries.now c.requires.good (c.in_ok-name.ensures c.args.version text at)
    (c.number-line.ensures.number ∙ c.requires.number)
