use Rattle.std.proofs.Common.{◌≡◌, ◌+◌, ◌≤◌, ◌++◌, ◌&&◌, map, length}
use Rattle.cgd_lex.specs.Lines.{rest_of_line, after_line}
use Rattle.keyline_import.specs.{Values.number_or_zero, Keys.are_numbers}
use Rattle.keyline_import.proofs.keyed.read_numbers.Given as goal

abbrev pub invariant-loop-token : goal.invariant-loop-token
invariant-loop-token l = record {
  good : (l.good && are_numbers (rest_of_line l.lexer)) ≡ are_numbers (rest_of_line l.fn.lexer);
  numbers : l.numbers.items ++ map number_or_zero (rest_of_line l.lexer) ≡ map number_or_zero (rest_of_line l.fn.lexer);
  count : length l.numbers.items + length l.lexer ≤ length l.fn.lexer;
  after : after_line l.lexer ≡ after_line l.fn.lexer;
}

abbrev pub decreases-loop-token : goal.decreases-loop-token
decreases-loop-token l = length l.lexer
