use Rattle.cgd_lex.proofs.Ends.{part_is}
use Rattle.cgd_lex.proofs.part.part_in_line.Goals as goal

pub returns-clause-part : goal.returns-clause-part
returns-clause-part c = part_is c.args.text.now c.args.first c.args.others.now c.measure-kind.result.1 c.measure-kind.result.0 c.requires.whole
    c.requires.other c.measure-kind.ensures.size c.measure-kind.ensures.kind c.measure-kind.ensures.within
