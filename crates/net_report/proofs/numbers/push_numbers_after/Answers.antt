use Rattle.std.proofs.Common.{◌≡◌, ◌∙◌, ◌+◌, ◌++◌, ◌∷◌, [], ℕ, ℤ, List, ap, drop, get_or, pos, sym, to_z, of_z, rules}
use Rattle.std.proofs.lemmas.List.{append_assoc}
use Rattle.std.specs.{Fmt.signed_decimal, Int.w64, Int.w128}
use Rattle.line_text.specs.Numbers.{numbers_text}
use Rattle.net_report.proofs.Growing.{line_more}
use Rattle.net_report.proofs.numbers.push_numbers_after.Goals as goal

pub loop-x-preserved : goal.loop-x-preserved
loop-x-preserved c =
    let numbers = c.args.numbers.now in let i = c.loop-x.x-index in let x = get_or numbers i (pos 0) in
    let rest = numbers_text (drop (i + 1) numbers) in
    let wide = to_z w128 (of_z w128 (to_z w64 (of_z w64 x))) in let same : wide ≡ x = search rules in
    line_more numbers_text (numbers_text (wide ∷ [])) rest numbers i (pos 0) c.loop-x.text.items c.push_numbers.new.text.items _ c.loop-x-test.true
    c.in_ok-push_numbers.ensures
    (ap (λ (z : ℤ). 32 ∷ signed_decimal z ++ rest) (sym same) ∙ ap (λ (t : List ℕ). 32 ∷ t) (sym (append_assoc (signed_decimal wide) [] rest)))
    c.loop-x.invariant
