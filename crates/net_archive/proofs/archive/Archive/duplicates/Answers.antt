use Rattle.std.{proofs.Common.subst, specs.Prelude.IfOk}
use Rattle.periodic_net.specs.Maps.{BareIso, Iso}
use Rattle.key_theory.proofs.CallerLemmas.{keys_decide, keys_decide_bare}
use Rattle.archive_text.specs.Groups.{numbers_in}
use Rattle.net_archive.{specs.Archives.ArchiveView, specs.Deciding.AreGroupsBy, proofs.IsoGroups.groups_told}
use Rattle.net_archive.proofs.archive.Archive.duplicates.Goals as goal

pub returns-clause-isomorphic : goal.returns-clause-isomorphic
returns-clause-isomorphic c =
    subst (λ (a : ArchiveView). IfOk c.duplicates.result (λ groups. AreGroupsBy Iso a.entries (numbers_in groups.items))) c.self.view_is
    (groups_told Iso keys_decide c.self.inside.entries c.duplicates.result c.self.invariant.is_archive.each c.duplicates.ensures)

pub returns-clause-bare : goal.returns-clause-bare
returns-clause-bare c =
    subst (λ (a : ArchiveView). IfOk c.duplicates.result (λ groups. AreGroupsBy BareIso a.entries (numbers_in groups.items))) c.self.view_is
    (groups_told BareIso keys_decide_bare c.self.inside.entries c.duplicates.result c.self.invariant.is_archive.each c.duplicates.ensures)
