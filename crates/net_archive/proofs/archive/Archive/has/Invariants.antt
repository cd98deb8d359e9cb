use Rattle.std.{proofs.Common.◌≡◌, proofs.Common.length, specs.List.list_any, specs.Str.bytes_eq}
use Rattle.net_archive.specs.Deciding.{is_there}
use Rattle.net_archive.proofs.archive.Archive.has.Given as goal

abbrev pub invariant-loop-found : goal.invariant-loop-found
invariant-loop-found l = list_any (bytes_eq l.name) l.names ≡ is_there l.self.entries l.name l.key

abbrev pub decreases-loop-found : goal.decreases-loop-found
decreases-loop-found l = length l.names
