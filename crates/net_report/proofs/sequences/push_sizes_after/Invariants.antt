use Rattle.std.proofs.Common.{◌≡◌, ◌++◌, drop}
use Rattle.net_report.specs.Sequences.{sizes_after}
use Rattle.net_report.proofs.sequences.push_sizes_after.Given as goal

abbrev pub invariant-loop-n : goal.invariant-loop-n
invariant-loop-n l = l.text.items ++ sizes_after (drop l.n-index l.sizes) ≡ l.initial.text.items ++ sizes_after l.sizes
