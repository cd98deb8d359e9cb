use Rattle.std.proofs.Common.{◌∙◌, ◌+◌, ◌++◌, ◌∷◌, ℕ, List, ap, drop, sym}
use Rattle.coordination.specs.Sequences.{numbers_in}
use Rattle.net_report.specs.{Identified.sequences_text, Sequences.shells_text}
use Rattle.net_report.proofs.Growing.{line_more}
use Rattle.net_report.proofs.identified.push_lists.Goals as goal

pub loop-sizes-preserved : goal.loop-sizes-preserved
loop-sizes-preserved c =
    let lists = c.args.lists.now in let i = c.loop-sizes.sizes-index in let sizes = c.sizes-item.result in let class = c.loop-sizes.class in
    let rest = drop (i + 1) lists in let after = sequences_text (class + 1) (numbers_in rest) in
    let told = ap (λ l. sequences_text class (numbers_in (l ∷ rest))) (sym c.sizes-item.is)
    ∙ ap (λ (ns : List ℕ). shells_text class ns ++ after) (sym c.deref.ensures.value) in (
      line_more (λ ls. sequences_text class (numbers_in ls)) (shells_text class c.deref.result.now) after lists i sizes c.loop-sizes.text.items
          c.push_shells.new.text.items _ c.loop-sizes-test.true c.in_ok-push_shells.ensures told c.loop-sizes.invariant.0,
      ap (λ n. n + 1) c.loop-sizes.invariant.1,
    )
