use Rattle.std.proofs.Common.{◌≡◌, ◌++◌, length}
use Rattle.least_key.specs.AnyNets.{net_view}
use Rattle.archive_text.specs.Lookups.{names_with}
use Rattle.block_answers.proofs.bodies.names_for.Given as goal

abbrev pub invariant-loop-name : goal.invariant-loop-name
invariant-loop-name l = l.names ++ l.matches ≡ names_with (net_view l.net).key l.archive.entries

abbrev pub decreases-loop-name : goal.decreases-loop-name
decreases-loop-name l = length l.matches
