use Rattle.std.proofs.Common.{◌≡◌, ◌++◌, drop}
use Rattle.cgd_read.specs.Names.{texts}
use Rattle.net_report.specs.Identified.{archive_names_text}
use Rattle.net_report.proofs.identified.push_archive_names.Given as goal

abbrev pub invariant-loop-name : goal.invariant-loop-name
invariant-loop-name l = l.text.items ++ archive_names_text (texts (drop l.name-index l.names)) ≡ l.initial.text.items ++ archive_names_text (texts l.names)
