use Rattle.std.proofs.Common.{◌+◌, ap, sym, ◌∙◌}
use Rattle.line_text.specs.Lines.{Place}
use Rattle.line_text.proofs.Texts.{one_more_row, first_line, only_line, no_line}
use Rattle.line_text.proofs.lines.Lines.next.Goals as goal

pub returns-in_default-clause-every : goal.returns-in_default-clause-every
returns-in_default-clause-every c = λ line rest none e. no_line c.self.inside.rest.now c.cut.result.1.now c.cut.ensures.second c.in_default.len_below line rest
    none (ap (λ (p : Place). p.rest) c.self.view_is ∙ e)

pub returns-in_default-len1-up-clause-line : goal.returns-in_default-len1-up-clause-line
returns-in_default-len1-up-clause-line c = ap (λ (p : Place). p.rest) (sym c.self.view_is)
    ∙ first_line c.self.inside.rest.now c.cut.result.0.now c.cut.result.1.now c.cut.ensures.first c.cut.ensures.second c.in_default-len1-up.len_at_least

pub returns-in_default-len1-up-clause-every : goal.returns-in_default-len1-up-clause-every
returns-in_default-len1-up-clause-every c = λ line rest none e. only_line c.self.inside.rest.now c.cut.result.0.now c.cut.result.1.now c.cut.ensures.first
    c.cut.ensures.second line rest none (ap (λ (p : Place). p.rest) c.self.view_is ∙ e)

pub returns-in_default-len1-up-clause-place : goal.returns-in_default-len1-up-clause-place
returns-in_default-len1-up-clause-place c = λ text rows at. one_more_row text rows c.args.self.now _ c.cut.result.0.now at
    (returns-in_default-len1-up-clause-line c) (ap (λ (p : Place). p.number + 1) c.self.view_is)
