use Rattle.std.proofs.Common.{◌≡◌, ◌++◌, drop}
use Rattle.net_report.specs.Primitives.{bases_text}
use Rattle.net_report.proofs.primitives.push_bases.Given as goal

abbrev pub invariant-loop-v : goal.invariant-loop-v
invariant-loop-v g l = l.text.items ++ bases_text g.row.D (drop l.v-index l.basis) ≡ l.initial.text.items ++ bases_text g.row.D l.basis
