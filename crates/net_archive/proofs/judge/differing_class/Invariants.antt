use Rattle.std.{proofs.Common.◌≡◌, proofs.Common.◌<◌, proofs.Common.ℕ, specs.List.slice_get}
use Rattle.net_archive.proofs.judge.differing_class.Given as goal

abbrev pub invariant-loop-before : goal.invariant-loop-before
invariant-loop-before l = (j : ℕ) → j < l.before → slice_get l.kept j ≡ slice_get l.computed j
