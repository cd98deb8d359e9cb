use Rattle.std.proofs.Common.{◌≡◌, ◌∙◌, sym, subst}
use Rattle.net_archive.specs.{Faults.IsFaultOf, declared.faults.ArchiveFault.TheVariants.NoMemory}
use Rattle.net_archive.proofs.OneFault.{are_archive, matched_error, only_memory, same_archive}
use Rattle.net_archive.proofs.archive.Archive.read.Goals as goal

pub returns-in_err-version-clause-every : goal.returns-in_err-version-clause-every
returns-in_err-version-clause-every c = λ a is e.
    let fault = c.in_err-version.field-0.0 in
    matched_error _ (λ f. f ≡ NoMemory) fault c.from_residual.result c.from_residual.ensures.1
    (only_memory a fault c.args.text.items is e (subst (λ t. IsFaultOf t fault) c.deref.ensures.value c.in_err-version.ensures.fault))

pub returns-clause-every : goal.returns-clause-every
returns-clause-every c = λ a is e.
    let read = sym c.deref.ensures.value ∙ c.in_ok-version.ensures.read in
    let b = are_archive c.in_ok-version.version c.in_ok-version.entries c.args.text.items c.requires c.in_ok-version.ensures.entries read in
    same_archive a _ c.args.text.items is b e read
