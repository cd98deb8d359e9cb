use Rattle.std.proofs.Common.{◌≡◌, ◌≤◌, length, true, ℤ, List, All, sym, ◌∙◌}
use Rattle.std.proofs.lemmas.{Result.IfOk-weaker, List.append_cancel_left}
use Rattle.line_text.specs.Numbers.{IsWide, numbers_text, row_text}
use Rattle.line_text.proofs.rows.read_row.Goals as goal

pub returns-in-Some-clause-every : goal.returns-in-Some-clause-every
returns-in-Some-clause-every c = IfOk-weaker c.read_numbers.result
    (λ read. (zs : List ℤ) → All IsWide zs → length zs ≤ c.args.most → c.in-Some.rest.now ≡ numbers_text zs
    → (read ≡ true) × (c.read_numbers.new.numbers.items ≡ zs))
    (λ read. (zs : List ℤ) → All IsWide zs → length zs ≤ c.args.most → c.args.line.now ≡ row_text c.args.word.now zs
    → (read ≡ true) × (c.read_numbers.new.numbers.items ≡ zs))
    (λ read h zs all few e. h zs all few (append_cancel_left c.args.word.now c.in-Some.rest.now (numbers_text zs) (sym c.in-Some.ensures ∙ e)))
    c.read_numbers.ensures.every
