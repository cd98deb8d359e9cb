-- Of `push_sizes`: the loop over `size`.
use Rattle.std.proofs.Common.{◌≡◌, ◌∙◌, ◌+◌, ◌<◌, ◌^◌, ◌++◌, ◌∷◌, [], ℕ, List, ap, append_assoc, arith, drop, get_or, length, map, pos, sym}
use Rattle.std.{proofs.lemmas.Int.to_z_pos, proofs.lemmas.List.at_drop_more, specs.Fmt.signed_decimal, specs.Int.w128}
use Rattle.line_text.specs.Numbers.{numbers_text}
use Rattle.archive_text.proofs.write.push_sizes.Goals as goal

-- one more size is written
size_written : (old between new whole sizes : List ℕ) (i d : ℕ) → i < length sizes → between ≡ old ++ 32 ∷ []
    → new ≡ between ++ signed_decimal (pos (get_or sizes i d)) → old ++ numbers_text (map pos (drop i sizes)) ≡ whole
    → new ++ numbers_text (map pos (drop (i + 1) sizes)) ≡ whole
size_written old between new whole sizes i d within blank digits h =
    let rest = numbers_text (map pos (drop (i + 1) sizes)) in let text = signed_decimal (pos (get_or sizes i d)) in
    ap (λ l. l ++ rest) (digits ∙ ap (λ l. l ++ text) blank) ∙ append_assoc (old ++ 32 ∷ []) text rest ∙ append_assoc old (32 ∷ []) (text ++ rest)
    ∙ sym (at_drop_more (λ l. old ++ numbers_text (map pos l)) sizes i d within) ∙ h

pub loop-size-preserved : goal.loop-size-preserved
loop-size-preserved c =
    let sizes = c.args.sizes.now in let i = c.loop-size.size-index in let between = c.push.new.self.items in let size = get_or sizes i 0 in
    let small : size < 2 ^ 32 = let f = c.type_inv.sizes i in omega (arith, f) in
    let digits = c.in_ok-push_number.ensures ∙ ap (λ z. between ++ signed_decimal z) (to_z_pos w128 size (omega (arith, small))) in
    size_written c.loop-size.text.items between c.push_number.new.text.items _ sizes i 0 c.loop-size-test.true c.in_ok-push.ensures.items digits
    c.loop-size.invariant
