use Rattle.std.proofs.Common.{take}
use Rattle.coordination.{specs.Points.IsStep, proofs.Layers.AreSearched}
use Rattle.coordination.proofs.search.next_shell.Given as goal

abbrev pub invariant-loop-from : goal.invariant-loop-from
invariant-loop-from g l = AreSearched (IsStep l.net) (take l.from-index l.shell) l.initial.found.keys l.found.keys l.next.items
