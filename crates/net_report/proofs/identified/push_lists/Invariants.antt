use Rattle.std.proofs.Common.{◌≡◌, ◌+◌, ◌++◌, drop}
use Rattle.coordination.specs.Sequences.{numbers_in}
use Rattle.net_report.specs.Identified.{sequences_text}
use Rattle.net_report.proofs.identified.push_lists.Given as goal

abbrev pub invariant-loop-sizes : goal.invariant-loop-sizes
invariant-loop-sizes l =
    (l.text.items ++ sequences_text l.class (numbers_in (drop l.sizes-index l.lists)) ≡ l.initial.text.items ++ sequences_text 1 (numbers_in l.lists))
    × (l.class ≡ l.sizes-index + 1)
