-- Of `blocks`: the loop over `line`; the clause `only`.
use Rattle.std.proofs.Common.{◌∙◌, ◌++◌, List, false, sym, ap, subst, length, arith}
use Rattle.std.{proofs.lemmas.List.Elements.All-nil, proofs.lemmas.Grind.common_steps, specs.List.All}
use Rattle.cgd_read.specs.Views.{line_view, BlockView, views}
use Rattle.cgd_read.{specs.Lines.LineView, specs.Lines.token_lines, specs.Blocks.blocks_from, specs.Blocks.IsReadBody, specs.declared.block.Block.Block}
use Rattle.cgd_read.{proofs.Decided.next_block, proofs.Decided.only_block}
use Rattle.cgd_read.proofs.read.blocks.Goals as goal

pub loop-line-init : goal.loop-line-init
loop-line-init c =
    let none = c.new-found.ensures.items in let tokens = c.new-lexer.ensures.tokens in
    let few = c.new-lexer.ensures.few in
    record {
      whole = ap (λ (bs : List Block). views bs ++ blocks_from false (token_lines c.new-lexer.result)) none
          ∙ ap (λ ts. blocks_from false (token_lines ts)) tokens;
      few = omega (arith, ap length none);
      graphs = subst (λ (bs : List Block). All (λ block. IsReadBody block.body) bs) (sym none) (All-nil (λ (block : Block). IsReadBody block.body));
      room = omega (arith, few, c.requires);
    }

pub loop-line-preserved : goal.loop-line-preserved
loop-line-preserved c =
    let i = c.loop-line.invariant in let old = views c.loop-line.found.items in
    let line = line_view c.in-Some.line in let lines = token_lines c.next_line.new.lexer in
    let left = token_lines c.add_block.new.lexer in
    record {
      whole =
          ap (λ (bs : List BlockView). bs ++ blocks_from false left) c.in_ok-add_block.ensures.added
          ∙ next_block old line lines left (sym c.is_end.ensures ∙ c.if-is_end.false) c.in_ok-add_block.ensures.lines
          ∙ ap (λ (ls : List LineView). old ++ blocks_from false ls) (sym c.in-Some.ensures.lines)
          ∙ i.whole;
      few = grind (arith, common_steps, c.in_ok-add_block.ensures.count);
      graphs = c.in_ok-add_block.ensures.graphs;
      room = omega (arith, c.in_ok-add_block.ensures.shorter, c.in-Some.ensures.shorter);
    }

pub returns-then-len-eq-MOST_BLOCKS-clause-only : goal.returns-then-len-eq-MOST_BLOCKS-clause-only
returns-then-len-eq-MOST_BLOCKS-clause-only c = only_block

pub returns-in_err-add_block-clause-only : goal.returns-in_err-add_block-clause-only
returns-in_err-add_block-clause-only c = only_block

pub returns-clause-only : goal.returns-clause-only
returns-clause-only c = only_block
