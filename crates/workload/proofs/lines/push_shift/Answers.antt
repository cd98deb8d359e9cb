use Rattle.std.proofs.Common.{◌≡◌, ◌++◌, OnOk, ℕ, List, ap, subst, ◌∙◌, append_assoc, w32, rules}
use Rattle.std.proofs.lemmas.Int.{to_z-of_z}
use Rattle.workload.specs.Workload.{part_text, third_text}
use Rattle.workload.proofs.lines.push_shift.Goals as goal

pub returns : goal.returns
returns c =
    let text = c.args.text.now.items in let e = c.args.e in
    let x = ap part_text (to_z-of_z w32 e.x (search rules)) in
    let y = ap part_text (to_z-of_z w32 e.y (search rules)) in
    let z = ap (third_text c.args.dimension) (to_z-of_z w32 e.z (search rules)) in
    let one = c.in_ok-push_part.ensures ∙ ap (λ s. text ++ s) x in
    let two = c.in_ok-push_part-2.ensures ∙ ap (λ s. c.push_part.new.text.items ++ s) y ∙ ap (λ s. s ++ part_text e.y) one
    ∙ append_assoc text (part_text e.x) (part_text e.y) in
    let three = ap (λ s. c.push_part-2.new.text.items ++ s) z ∙ ap (λ s. s ++ third_text c.args.dimension e.z) two
    ∙ append_assoc text (part_text e.x ++ part_text e.y) (third_text c.args.dimension e.z) in
    subst (λ (w : List ℕ). OnOk c.push_third.result (c.push_third.new.text.items ≡ w)) three c.push_third.ensures
