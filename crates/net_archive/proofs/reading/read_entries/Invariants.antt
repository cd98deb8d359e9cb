use Rattle.std.proofs.Common.{length}
use Rattle.net_archive.specs.Steps.{AreRead}
use Rattle.net_archive.proofs.reading.read_entries.Given as goal

abbrev pub invariant-loop-version : goal.invariant-loop-version
invariant-loop-version l = AreRead l.version l.initial.lines l.lines l.entries

abbrev pub decreases-loop-version : goal.decreases-loop-version
decreases-loop-version l = length l.lines.rest
