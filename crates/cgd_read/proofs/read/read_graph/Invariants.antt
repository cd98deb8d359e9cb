use Rattle.std.proofs.Common.{◌≡◌, ◌+◌, ◌≤◌, List, [], length}
use Rattle.cgd_lex.specs.Limits.{longest_text}
use Rattle.cgd_read.specs.{Lines.LineView, Lines.token_lines, Blocks.graph_block, Reading.after_end, States.IsStateAfter}
use Rattle.cgd_read.proofs.Graphs.{AllSound}
use Rattle.cgd_read.proofs.read.read_graph.Given as goal

abbrev pub invariant-loop-line : goal.invariant-loop-line
invariant-loop-line l = record {
  earlier : List LineView;
  sound : AllSound earlier;
  stands : IsStateAfter l.state earlier;
  block : graph_block l.opening earlier (token_lines l.lexer) ≡ graph_block l.opening [] (token_lines l.fn.lexer);
  lines : after_end (token_lines l.lexer) ≡ after_end (token_lines l.fn.lexer);
  room : l.state.graph.repeats + length l.lexer ≤ longest_text;
  shorter : length l.lexer ≤ length l.fn.lexer;
}

abbrev pub decreases-loop-line : goal.decreases-loop-line
decreases-loop-line l = length l.lexer
