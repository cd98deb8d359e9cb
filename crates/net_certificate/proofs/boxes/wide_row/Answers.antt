use Rattle.std.proofs.Common.{sym, ◌∙◌}
use Rattle.integers.specs.Vectors.{parts}
use Rattle.net_certificate.proofs.FirstWide.{found_at, passed_all, passed_more}
use Rattle.net_certificate.proofs.boxes.wide_row.Goals as goal

pub returns-then-is_some : goal.returns-then-is_some
returns-then-is_some g c =
    found_at (parts g.row.D) c.args.rows.now c.loop-row.row-index c.row-item.result c.loop-row-test.true c.row-item.is c.wide_part-z.result
    (sym c.is_some.ensures ∙ c.if-is_some.true) c.loop-row.invariant c.wide_part-z.ensures

pub loop-row-preserved : goal.loop-row-preserved
loop-row-preserved g c =
    passed_more (parts g.row.D) c.args.rows.now c.loop-row.row-index c.row-item.result c.loop-row-test.true c.row-item.is c.wide_part-z.result
    (sym c.is_some.ensures ∙ c.if-is_some.false) c.loop-row.invariant c.wide_part-z.ensures

pub returns : goal.returns
returns g c = passed_all (parts g.row.D) c.args.rows.now c.loop-row.row-index c.loop-row.invariant c.loop-row-test.false
