use Rattle.std.proofs.Common.{◌+◌, drop, refl}
use Rattle.cgd_read.specs.Names.{texts}
use Rattle.net_report.specs.Identified.{archive_names_text}
use Rattle.net_report.proofs.Growing.{line_more}
use Rattle.net_report.proofs.identified.push_archive_names.Goals as goal

pub loop-name-preserved : goal.loop-name-preserved
loop-name-preserved c =
    let names = c.args.names.now in let i = c.loop-name.name-index in
    line_more (λ ns. archive_names_text (texts ns)) _ (archive_names_text (texts (drop (i + 1) names))) names i _ c.loop-name.text.items
    c.push_archive_name.new.text.items _ c.loop-name-test.true c.in_ok-push_archive_name.ensures refl c.loop-name.invariant
