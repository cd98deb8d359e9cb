use Rattle.std.proofs.Common.{◌≡◌, ◌≤◌, List, length}
use Rattle.cgd_lex.specs.Lines.{rest_of_line, after_line}
use Rattle.keyline_import.specs.Items.{item_after, item_of, after_end}
use Rattle.keyline_import.specs.{Lines.LineView, Lines.lines_in, Reading.line_view, Views.IsStateAfter}
use Rattle.keyline_import.proofs.read.read_lines.Given as goal

abbrev pub invariant-loop-head : goal.invariant-loop-head
invariant-loop-head l = record {
  earlier : List LineView;
  stands : IsStateAfter l.state earlier;
  item : item_after l.opening.number earlier (lines_in l.lexer) ≡ item_of (line_view l.opening (rest_of_line l.fn.lexer)) (lines_in (after_line l.fn.lexer));
  lines : after_end (lines_in l.lexer) ≡ after_end (lines_in (after_line l.fn.lexer));
  shorter : length l.lexer ≤ length l.fn.lexer;
}

abbrev pub decreases-loop-head : goal.decreases-loop-head
decreases-loop-head l = length l.lexer
