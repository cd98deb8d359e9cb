use Rattle.std.proofs.Common.{take}
use Rattle.integers.specs.Lists.{AreMatched}
use Rattle.net_components.specs.Written.{IsMadeOf}
use Rattle.net_components.proofs.parts.parts_of.Given as goal

abbrev pub invariant-loop-component : goal.invariant-loop-component
invariant-loop-component g l = AreMatched (IsMadeOf l.g) (take l.component-index l.components) l.parts.items
