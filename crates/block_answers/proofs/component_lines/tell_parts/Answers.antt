use Rattle.block_answers.proofs.Printing.{named_parts}
use Rattle.block_answers.proofs.component_lines.tell_parts.Goals as goal

pub push_told-requires : goal.push_told-requires
push_told-requires c = named_parts c.args.names.now _ c.dimension_of.ensures.is_graph c.requires.names c.args.parts.now c.requires.parts
