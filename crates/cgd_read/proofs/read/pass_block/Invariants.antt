use Rattle.std.proofs.Common.{◌≡◌, ◌≤◌, length}
use Rattle.cgd_read.specs.{Lines.token_lines, Reading.after_end}
use Rattle.cgd_read.proofs.read.pass_block.Given as goal

abbrev pub invariant-loop-line : goal.invariant-loop-line
invariant-loop-line l = record {
  lines : after_end (token_lines l.lexer) ≡ after_end (token_lines l.fn.lexer);
  shorter : length l.lexer ≤ length l.fn.lexer;
}

abbrev pub decreases-loop-line : goal.decreases-loop-line
decreases-loop-line l = length l.lexer
