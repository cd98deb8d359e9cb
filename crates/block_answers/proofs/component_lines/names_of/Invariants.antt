use Rattle.std.proofs.Common.{◌≡◌, take}
use Rattle.block_answers.specs.Texts.{names_of}
use Rattle.block_answers.proofs.component_lines.names_of.Given as goal

-- the names so far
abbrev pub invariant-loop-u : goal.invariant-loop-u
invariant-loop-u l = l.found ≡ names_of l.names (take l.u-index l.vertices)
