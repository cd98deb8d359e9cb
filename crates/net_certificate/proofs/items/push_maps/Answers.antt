-- Of `push_maps`: the loop over `lender`; what it ensures.
use Rattle.std.proofs.Common.{◌≡◌, List, [], drop, map, arith, sym, subst}
use Rattle.std.proofs.lemmas.{List.append-nil, List.at_drop_all, Result.err_from_is_err_and}
use Rattle.least_key.specs.{AnyNets.net_view, KeyedNets.KeyedNet}
use Rattle.net_certificate.{specs.NetSteps.AreItemsLast, specs.NetSteps.IsItemLast, proofs.WholeTexts.leads_on, proofs.WholeTexts.less_room}
use Rattle.net_certificate.proofs.items.push_maps.Goals as goal

pub loop-lender-preserved : goal.loop-lender-preserved
loop-lender-preserved g c =
    let first = net_view c.args.first.now in let net = net_view c.net-net.result.now in
    let l = c.loop-lender in let one = c.in_ok-room.ensures in let few = l.invariant.few in
    let lent = subst (λ (n : KeyedNet). IsItemLast first l.k l.room n c.in_ok-room.room l.text.items c.push_map.new.text.items) c.net-net.ensures one in
    record {
      room_few = less_room first l.k l.room c.in_ok-room.room net l.text.items c.push_map.new.text.items one l.invariant.room_few;
      few = omega (arith, few);
      leads = leads_on g.T.LendsNet.net first l.k l.room c.in_ok-room.room c.args.nets.now l.lender-index c.lender-item.result c.args.text.now.items
          l.text.items c.push_map.new.text.items c.loop-lender-test.true c.lender-item.is l.invariant.leads lent;
    }

pub returns-in_err-room : goal.returns-in_err-room
returns-in_err-room g c = let told = err_from_is_err_and c.from_residual.result c.from_residual.ensures.1 in rw told.1 tt

pub returns : goal.returns
returns g c =
    let first = net_view c.args.first.now in let l = c.loop-lender in let now = l.text.items in let f = g.T.LendsNet.net in
    let none : map f (drop l.lender-index c.args.nets.now) ≡ [] = at_drop_all (map f) c.args.nets.now l.lender-index c.loop-lender-test.false in
    l.invariant.leads now (subst (λ (nets : List KeyedNet). AreItemsLast first l.k l.room nets now now) (sym none)
    (record { items = []; are_items = tt; text = sym (append-nil now) }))
