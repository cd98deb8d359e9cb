use Rattle.std.proofs.Common.{◌≡◌, ◌≤◌, length}
use Rattle.cgd_lex.specs.Lines.{filled_lines}
use Rattle.cgd_lex.proofs.lines.next_first.Given as goal

abbrev pub invariant-loop-token : goal.invariant-loop-token
invariant-loop-token l = record {
  lines : filled_lines l.lexer ≡ filled_lines l.fn.lexer;
  shorter : length l.lexer ≤ length l.fn.lexer;
}

abbrev pub decreases-loop-token : goal.decreases-loop-token
decreases-loop-token l = length l.lexer
