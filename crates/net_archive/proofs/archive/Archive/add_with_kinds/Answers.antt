use Rattle.std.proofs.{Common.◌≡◌, Common.◌∙◌, Common.true, Common.sym, lemmas.Result.IfOk-weaker}
use Rattle.least_key.specs.AnyNets.{net_view}
use Rattle.line_text.specs.Names.{is_name}
use Rattle.archive_text.specs.Entries.{entry_view}
use Rattle.net_archive.proofs.NewEntry.{fault_told}
use Rattle.net_archive.proofs.archive.Archive.add_with_kinds.Goals as goal

pub returns-clause-added : goal.returns-clause-added
returns-clause-added c = IfOk-weaker c.add_entry.result _ _ (λ x h. (entry_view c.in_ok-entry.entry, c.in_ok-entry.ensures.entry, h)) c.add_entry.ensures.added

pub returns-clause-fault : goal.returns-clause-fault
returns-clause-fault c =
    let named : is_name c.args.name.now ≡ true = sym c.is_name.ensures ∙ c.if-not-is_name.false in
    fault_told c.args.self.now c.args.name.now (net_view c.args.net.now)
    (entry_view c.in_ok-entry.entry) named c.in_ok-entry.ensures.entry c.add_entry.result c.add_entry.ensures.fault
