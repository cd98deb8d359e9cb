use Rattle.std.proofs.Common.{take, All}
use Rattle.line_text.specs.Numbers.{IsWide}
use Rattle.net_report.proofs.keys.recall_key.Given as goal

abbrev pub invariant-loop-number : goal.invariant-loop-number
invariant-loop-number l = All IsWide (take l.number-index l.number-items)
