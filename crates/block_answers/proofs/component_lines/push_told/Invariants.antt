use Rattle.block_answers.proofs.Listing.{AreToldTo}
use Rattle.block_answers.proofs.component_lines.push_told.Given as goal

-- the parts so far
abbrev pub invariant-loop-part : goal.invariant-loop-part
invariant-loop-part l = AreToldTo l.names l.parts l.part-index l.number l.accepted l.initial.text.items l.text.items
