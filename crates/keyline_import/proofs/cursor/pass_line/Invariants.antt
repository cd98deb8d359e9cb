use Rattle.std.proofs.Common.{◌≡◌, ◌≤◌, length}
use Rattle.cgd_lex.specs.Lines.{after_line}
use Rattle.keyline_import.proofs.cursor.pass_line.Given as goal

abbrev pub invariant-loop : goal.invariant-loop
invariant-loop l = record {
  after : after_line l.lexer ≡ after_line l.fn.lexer;
  shorter : length l.lexer ≤ length l.fn.lexer;
}

abbrev pub decreases-loop : goal.decreases-loop
decreases-loop l = length l.lexer
