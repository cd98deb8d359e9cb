use Rattle.std.proofs.Common.{◌≡◌, ℕ, sym, subst}
use Rattle.periodic_net.specs.{Graph.Graph, Graph.IsGraph, Maps.BareIso, Maps.Iso}
use Rattle.key_theory.{specs.Key.IsKeyOf, proofs.CallerLemmas.keys_decide, proofs.CallerLemmas.keys_decide_bare}
use Rattle.net_archive.{specs.Archives.ArchiveView, specs.Deciding.AreNamesBy, proofs.IsoGroups.names_found}
use Rattle.net_archive.proofs.archive.Archive.lookup.Goals as goal

pub returns-clause-isomorphic : goal.returns-clause-isomorphic
returns-clause-isomorphic c = λ G g k.
    let entries = c.self.inside.entries in
    let found = subst (AreNamesBy (Iso G) entries) (sym c.lookup.ensures)
    (names_found Iso keys_decide G g c.args.key.now k entries c.self.invariant.is_archive.each) in
    subst (λ (a : ArchiveView). AreNamesBy (Iso G) a.entries c.lookup.result) c.self.view_is found

pub returns-clause-bare : goal.returns-clause-bare
returns-clause-bare c = λ G g k.
    let entries = c.self.inside.entries in
    let found = subst (AreNamesBy (BareIso G) entries) (sym c.lookup.ensures)
    (names_found BareIso keys_decide_bare G g c.args.key.now k entries c.self.invariant.is_archive.each) in
    subst (λ (a : ArchiveView). AreNamesBy (BareIso G) a.entries c.lookup.result) c.self.view_is found
