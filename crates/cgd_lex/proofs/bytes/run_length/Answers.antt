use Rattle.std.proofs.Common.{sym, ◌∙◌, refl}
use Rattle.cgd_lex.{specs.Pieces.is_run_byte, specs.Pieces.ends_run, proofs.Ends.ends_in_line, proofs.Ends.end_or_length}
use Rattle.cgd_lex.proofs.bytes.run_length.Goals as goal

pub returns-clause-length : goal.returns-clause-length
returns-clause-length c =
    c.unwrap_or.ensures ∙ end_or_length ends_run c.args.bytes.now c.run_end.result (sym c.run_end.ensures)
    ∙ sym (ends_in_line is_run_byte c.args.bytes.now refl)
