use Rattle.std.proofs.Common.{◌++◌, ap, sym, ◌∙◌, length, ◌≤◌, subst, List, ℕ, arith}
use Rattle.workload.specs.Workload.{block_text, most_nets, most_text}
use Rattle.workload.proofs.SmallText.{one_more_piece, text_small}
use Rattle.workload.proofs.text.workload_text.Goals as goal

pub loop-i-preserved : goal.loop-i-preserved
loop-i-preserved c =
    c.in_ok-push_block.ensures ∙ ap (λ xs. xs ++ block_text c.loop-i.i) c.loop-i.invariant ∙ sym (one_more_piece block_text c.loop-i.i)

pub returns-clause-small : goal.returns-clause-small
returns-clause-small c =
    let few : c.loop-i.i ≤ most_nets = omega (arith, c.loop-i.auto.i-end, c.requires) in
    subst (λ (xs : List ℕ). length xs ≤ most_text) (sym c.loop-i.invariant) (text_small c.loop-i.i few)
