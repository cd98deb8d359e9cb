use Rattle.std.proofs.Common.{◌≡◌, ◌≤◌, ◌++◌, false, length}
use Rattle.std.specs.List.{All}
use Rattle.cgd_lex.specs.Limits.{longest_text}
use Rattle.cgd_read.specs.Blocks.{blocks_from, blocks_of, IsReadBody}
use Rattle.cgd_read.specs.{Lines.token_lines, Views.views}
use Rattle.cgd_read.proofs.read.blocks.Given as goal

abbrev pub invariant-loop-line : goal.invariant-loop-line
invariant-loop-line l = record {
  whole : views l.found.items ++ blocks_from false (token_lines l.lexer) ≡ blocks_of l.fn.text;
  few : length l.found.items ≤ 4096;
  graphs : All (λ block. IsReadBody block.body) l.found.items;
  room : length l.lexer ≤ longest_text;
}

abbrev pub decreases-loop-line : goal.decreases-loop-line
decreases-loop-line l = length l.lexer
