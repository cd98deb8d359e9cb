use Rattle.std.proofs.Common.{◌≡◌, ◌∙◌, ◌++◌, ◌-◌, ℕ, ℤ, List, ap, arith, drop, get_or, length, pos, subst, sym, take, to_z, of_z, rules}
use Rattle.std.proofs.lemmas.List.{at_drop_more, length-drop, take_all}
use Rattle.std.specs.{Fmt.signed_decimal, Int.w64, Int.w128, Prelude.OnOk}
use Rattle.line_text.specs.Numbers.{list_text, numbers_text}
use Rattle.net_report.proofs.Growing.{two_parts}
use Rattle.net_report.proofs.numbers.push_list.Goals as goal

pub returns-in_ok-push_number-in-len1-up : goal.returns-in_ok-push_number-in-len1-up
returns-in_ok-push_number-in-len1-up c =
    let text = c.args.text.now.items in let numbers = c.args.numbers.now in let x = get_or numbers 0 (pos 0) in
    let same : to_z w128 (of_z w128 (to_z w64 (of_z w64 x))) ≡ x = search rules in
    let others : take (length numbers - 1) (drop 1 numbers) ≡ drop 1 numbers = take_all _ _ (omega (arith, length-drop 1 numbers)) in
    let all = at_drop_more list_text numbers 0 (pos 0) c.in-len1-up.len_at_least ∙ ap (λ (ns : List ℤ). signed_decimal x ++ numbers_text ns) (sym others) in
    let r = c.push_numbers_after.result in let last = c.push_numbers_after.new.text.items in
    subst (λ (t : List ℕ). OnOk r (last ≡ text ++ t)) (sym all) (two_parts r text c.push_number.new.text.items last (signed_decimal x)
    (numbers_text (take (length numbers - 1) (drop 1 numbers))) (c.in_ok-push_number-in-len1-up.ensures ∙ ap (λ (z : ℤ). text ++ signed_decimal z) same)
    c.push_numbers_after.ensures)
