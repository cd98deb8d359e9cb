-- Of `archive_in`: what it ensures, if there are no bytes, and if an archive is read.
use Rattle.std.proofs.Common.{ℕ, Option, Vec, Global, sym, subst}
use Rattle.archive_answers.specs.ArchiveBytes.{IsArchiveIn, bytes_in}
use Rattle.archive_answers.proofs.reading.archive_in.Goals as goal

pub returns-in_default : goal.returns-in_default
returns-in_default c = subst (λ (bytes : Option (Vec ℕ Global)). IsArchiveIn (bytes_in bytes) c.empty.result) (sym c.in_default.is) c.empty.ensures

pub returns-in-Ok : goal.returns-in-Ok
returns-in-Ok c =
    subst (λ (bytes : Option (Vec ℕ Global)). IsArchiveIn (bytes_in bytes) c.in-Ok.archive) (sym c.in-Some.is) (c.recall.ensures, c.in-Ok.ensures.read)
