use Rattle.std.proofs.Common.{◌≤◌, ◌+◌, drop, map}
use Rattle.least_key.specs.AnyNets.{net_view}
use Rattle.map_check.specs.Conditions.{most_images}
use Rattle.net_certificate.proofs.WholeTexts.{LeadsTo}
use Rattle.net_certificate.proofs.items.push_maps.Given as goal

abbrev pub invariant-loop-lender : goal.invariant-loop-lender
invariant-loop-lender g l = record {
  room_few : l.room ≤ most_images;
  few : l.k ≤ l.lender-index + 2;
  leads : LeadsTo (net_view l.first) l.k l.room (map g.T.LendsNet.net (drop l.lender-index l.nets)) l.text.items
      (map g.T.LendsNet.net l.nets) l.initial.text.items;
}
