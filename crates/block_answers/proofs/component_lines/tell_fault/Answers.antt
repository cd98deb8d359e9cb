use Rattle.block_answers.proofs.Printing.{fault_line}
use Rattle.block_answers.proofs.component_lines.tell_fault.Goals as goal

pub push_fault-requires : goal.push_fault-requires
push_fault-requires c =
    fault_line c.args.names.now _ c.dimension_of.ensures.is_graph c.requires.names c.args.fault.now c.requires.fault
    (c.is_told_fault.ensures c.if-not-is_told_fault.false)
