use Rattle.std.proofs.Common.{sym, subst}
use Rattle.cgd_read.specs.Views.{Net, raw_view}
use Rattle.block_answers.{specs.Outcomes.IsBodyOf, specs.Outcomes.size_of, proofs.NetOutcomes.identified_as}
use Rattle.net_report.specs.declared.command.Command.TheVariants.{Identify}
use Rattle.block_answers.proofs.bodies.identified_body.Goals as goal

pub returns-in-Ok : goal.returns-in-Ok
returns-in-Ok c =
    let raw = raw_view c.args.raw.now in
    let entries = c.args.archive.now.entries in let lists = c.in-Ok.lists in
    subst (IsBodyOf entries Identify (Net raw)) (sym c.with_lists.ensures)
    (identified_as entries raw (size_of raw) lists.0 c.args.found.net lists.1 lists.2 c.requires.keyed c.in-Ok.ensures.vertices c.in-Ok.ensures.shells
    c.lists_of.ensures.archive.each c.in-Ok.ensures.names)
