use Rattle.std.proofs.Common.{◌≡◌, ◌+◌, ◌≤◌, length, fold}
use Rattle.cgd_lex.specs.{Limits.longest_text, Lines.rest_of_line, Lines.after_line}
use Rattle.cgd_read.specs.{Views.fields_view, Reading.with_field, Reading.IsSmallFields}
use Rattle.cgd_read.proofs.cursor.read_fields.Given as goal

abbrev pub invariant-loop-token : goal.invariant-loop-token
invariant-loop-token l = record {
  fields : fold with_field (fields_view l.fields) (rest_of_line l.lexer) ≡ fold with_field (fields_view l.fn.start) (rest_of_line l.fn.lexer);
  after : after_line l.lexer ≡ after_line l.fn.lexer;
  small : IsSmallFields (fields_view l.fields);
  shorter : length l.lexer ≤ length l.fn.lexer;
  room : l.fields.size + length l.lexer ≤ longest_text;
}

abbrev pub decreases-loop-token : goal.decreases-loop-token
decreases-loop-token l = length l.lexer
