-- Of `map_of`: what `ends`, `image_cells` and `write_map` require; what it ensures.
use Rattle.std.proofs.Common.{lit<, sym, subst}
use Rattle.standard_map.specs.Search.{AreEnds}
use Rattle.net_certificate.{specs.Answers.IsMapAnswer, specs.Written.IsAnswerOf, proofs.FoundMaps.if_ok, proofs.FoundMaps.one_key}
use Rattle.net_certificate.proofs.maps.map_of.Goals as goal

pub ends-requires : goal.ends-requires
ends-requires g c =
    let h = c.in_ok-here in let t = c.in_ok-there in
    let key = one_key c.args.a.now c.args.b.now h.ensures.keyed t.ensures.keyed h.here t.there h.ensures.side t.ensures.side c.requires in
    (lit< tt, (lit< tt, (lit< tt, key)))

pub image_cells-requires : goal.image_cells-requires
image_cells-requires g c =
    let h = c.in_ok-here in let t = c.in_ok-there in
    let key = one_key c.args.a.now c.args.b.now h.ensures.keyed t.ensures.keyed h.here t.there h.ensures.side t.ensures.side c.requires in
    (lit< tt, (lit< tt, (lit< tt, (key, subst (AreEnds h.here t.there) (sym c.deref.ensures.value) c.in_ok-ends.ensures))))

pub write_map-requires : goal.write_map-requires
write_map-requires g c =
    let h = c.in_ok-here in let t = c.in_ok-there in
    let key = one_key c.args.a.now c.args.b.now h.ensures.keyed t.ensures.keyed h.here t.there h.ensures.side t.ensures.side c.requires in
    let ends = subst (AreEnds h.here t.there) (sym c.deref-2.ensures.value) c.in_ok-ends.ensures in
    let cells = c.in_ok-cells.ensures in
    (lit< tt, (lit< tt, (lit< tt, (key, (ends, (cells.cells, (cells.first, (cells.second, cells.third))))))))

pub returns : goal.returns
returns g c =
    let h = c.in_ok-here in let t = c.in_ok-there in
    if_ok (IsAnswerOf h.here t.there c.args.room) (IsMapAnswer c.args.a.now c.args.b.now c.args.room)
    (λ x k. k c.args.a.now c.args.b.now h.ensures.keyed t.ensures.keyed h.ensures.side t.ensures.side c.requires) c.write_map.result c.write_map.ensures
