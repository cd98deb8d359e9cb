use Rattle.std.proofs.Common.{◌≡◌, ◌≤◌, ◌++◌, List, false, length}
use Rattle.cgd_lex.specs.Limits.{longest_text}
use Rattle.keyline_import.specs.{Items.ItemView, Items.items_from, Items.items_of, Lines.lines_in, Views.AreRead}
use Rattle.keyline_import.proofs.read.items.Given as goal

abbrev pub invariant-loop-head : goal.invariant-loop-head
invariant-loop-head l = record {
  views : List ItemView;
  whole : views ++ items_from false (lines_in l.lexer) ≡ items_of l.fn.text;
  read : AreRead views l.found.items;
  few : length l.found.items ≤ 4096;
  room : length l.lexer ≤ longest_text;
}

abbrev pub decreases-loop-head : goal.decreases-loop-head
decreases-loop-head l = length l.lexer
