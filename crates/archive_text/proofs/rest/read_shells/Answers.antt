use Rattle.std.proofs.Common.{MatchResult, sym, subst}
use Rattle.line_text.specs.Faults.{IfBadLine}
use Rattle.archive_text.specs.{Parts.end_part, Reading.HasWhole, Reading.HasBadLine}
use Rattle.archive_text.proofs.rest.read_shells.Goals as goal

pub returns-in-Two-clause-rest : goal.returns-in-Two-clause-rest
returns-in-Two-clause-rest c = λ text rows name s edges key keyed at.
    subst (λ v. MatchResult c.read_counted.result (λ lists. HasWhole v text rows (end_part v name s edges key lists) c.read_counted.new.lines)
    (IfBadLine (HasBadLine v text rows name))) (sym c.in-Two.is)
    (c.read_counted.ensures.rest text rows name s edges key keyed at)
