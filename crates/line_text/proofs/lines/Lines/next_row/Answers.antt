use Rattle.std.proofs.Common.{◌≡◌, ◌≤◌, length, ℕ, ℤ, true, List, ◌∷◌, ◌++◌, All}
use Rattle.std.proofs.lemmas.Result.{IfOk-weaker}
use Rattle.line_text.{specs.Numbers.IsWide, specs.Numbers.row_text, proofs.Texts.row_has_no}
use Rattle.line_text.proofs.lines.Lines.next_row.Goals as goal

pub returns-in-Some-clause-every : goal.returns-in-Some-clause-every
returns-in-Some-clause-every c = IfOk-weaker c.read_row.result
    (λ read. (zs : List ℤ) → All IsWide zs → length zs ≤ c.args.most → c.in-Some.line.now ≡ row_text c.args.word.now zs
    → (read ≡ true) × (c.read_row.new.numbers.items ≡ zs))
    (λ read. (zs : List ℤ) (rest : List ℕ) → All IsWide zs → length zs ≤ c.args.most → c.args.self.now.rest ≡ row_text c.args.word.now zs ++ 10 ∷ rest
    → (read ≡ true) × (c.read_row.new.numbers.items ≡ zs))
    (λ read h zs rest all few e. h zs all few (c.in-Some.ensures.every (row_text c.args.word.now zs) rest (row_has_no c.args.word.now zs c.requires all) e).0)
    c.read_row.ensures.every

pub returns-in-None-clause-every : goal.returns-in-None-clause-every
returns-in-None-clause-every c =
    λ zs rest all few e. absurd (c.in-None.ensures.every (row_text c.args.word.now zs) rest (row_has_no c.args.word.now zs c.requires all) e)
