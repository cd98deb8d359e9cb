use Rattle.std.proofs.Common.{◌+◌, ◌∙◌, ◌∷◌, ◌≤◌, [], ap, arith, length, subst, sym}
use Rattle.std.proofs.lemmas.List.{get_or_append_left}
use Rattle.elimination.{specs.Lines.AreWide, proofs.Loops.count_rest, proofs.Loops.lines_rest, proofs.Loops.row_last, proofs.Loops.lines_at}
use Rattle.elimination.proofs.solution.pop_last.Goals as goal

pub returns : goal.returns
returns g c =
    let n = g.N.Exact in let k = c.args.k in let items = c.in-Some-Some.ensures.items in
    let rest = c.pop.new.self.items in let last = c.in-Some-Some.field-0-0 in
    let count = count_rest rest last k (ap length (sym items) ∙ c.requires.lines) in
    let sum_items = c.in-Some-Some.ensures'.items in let sum_rest = c.pop-2.new.self.items in
    let last_sums = c.in-Some-Some.last_sums in
    let sum_count = count_rest sum_rest last_sums k (ap length (sym sum_items) ∙ c.requires.sums) in
    let all_wide = subst (λ xs. AreWide xs (k + 1) (k + 1)) items c.requires.wide in
    record {
      lines = count;
      sums = sum_count;
      wide = record {
        wide = λ i d b. subst (λ t. k + 1 ≤ length t.items + (i + 1)) (get_or_append_left rest (last ∷ []) d i (omega (arith, count, b)))
            (all_wide.wide i d (omega (arith, b)));
      };
      values = λ v h.
          let all = lines_at n.modulus n.value v (k + 1) (k + 1) items sum_items h in (
            lines_rest rest last k count n.modulus n.value sum_rest last_sums sum_count v all,
            row_last rest last k count n.modulus n.value sum_rest last_sums sum_count v all,
          );
    }
