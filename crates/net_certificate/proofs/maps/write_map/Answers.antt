-- Of `write_map`: what it ensures; what `period_number`, `entries` and `box_images` require.
use Rattle.std.proofs.Common.{ℕ, ◌*◌, ◌≤◌, lit<, sym, subst, ap, ◌∙◌}
use Rattle.periodic_net.specs.Graph.{Graph}
use Rattle.map_check.specs.{Layouts.box_size, Conditions.most_period}
use Rattle.standard_map.specs.MapNumbers.{base_rows}
use Rattle.net_certificate.specs.{Tables.AreImages, Written.IsWritten}
use Rattle.net_certificate.proofs.FoundMaps.{long_due, period_limit, period_small, written_due}
use Rattle.net_certificate.proofs.maps.write_map.Goals as goal

pub period_number-m-requires : goal.period_number-m-requires
period_number-m-requires g c =
    let p = c.period_of-period in
    period_limit c.args.here.now c.args.there.now c.requires.one_key c.args.cells.now c.requires.cells p.result.m p.result.shifts p.ensures
    c.graph-2.result.now c.graph-2.ensures c.recall.ensures.small

pub entries-entries-requires-clause-period : goal.entries-entries-requires-clause-period
entries-entries-requires-clause-period g c =
    let p = c.period_of-period in
    subst (λ (n : ℕ). n ≤ most_period) (sym c.period_number-m.ensures)
    (period_limit c.args.here.now c.args.there.now c.requires.one_key c.args.cells.now c.requires.cells p.result.m p.result.shifts p.ensures
    c.graph-2.result.now c.graph-2.ensures c.recall.ensures.small)

pub returns-then-room-entries : goal.returns-then-room-entries
returns-then-room-entries g c = λ a b ka kb s t e.
    let S = c.args.here.now in let T = c.args.there.now in let p = c.period_of-period in
    let m = c.period_number-m.result in
    let dimension = ap (λ (G : Graph). G.dimension) (sym c.graph.ensures) ∙ c.vertices-n.ensures.parameter in
    let count = c.entries-entries.ensures ∙ ap (λ (n : ℕ). n * box_size g.row.D m) (c.vertices-n.ensures.count ∙ ap (λ (G : Graph). G.vertices) c.graph.ensures)
    ∙ ap (λ (n : ℕ). S.net.graph.vertices * box_size n m) (sym dimension)
    ∙ ap (λ (n : ℕ). S.net.graph.vertices * box_size S.net.graph.dimension n) c.period_number-m.ensures in
    long_due a b ka kb S T s t e c.args.cells.now c.requires.cells p.result.m p.result.shifts p.ensures c.args.room c.entries-entries.result count
    c.if-room-entries.true

pub box_images-requires : goal.box_images-requires
box_images-requires g c =
    let p = c.period_of-period in let r = c.requires in
    let from = (period_small c.args.here.now c.args.there.now r.one_key c.args.cells.now r.cells p.result.m p.result.shifts p.ensures).0 in
    let to = period_limit c.args.here.now c.args.there.now r.one_key c.args.cells.now r.cells p.result.m p.result.shifts p.ensures
    c.graph-2.result.now c.graph-2.ensures c.recall.ensures.small in
    let from' = subst (λ (n : ℕ). 1 ≤ n) (sym c.period_number-m.ensures) from in
    let to' = subst (λ (n : ℕ). n ≤ most_period) (sym c.period_number-m.ensures) to in
    (lit< tt, (lit< tt, (lit< tt, (r.one_key, (r.ends, (r.cells, (r.first, (r.second, (r.third, (from', to'))))))))))

pub returns : goal.returns
returns g c = λ a b ka kb s t e.
    let S = c.args.here.now in let T = c.args.there.now in let p = c.period_of-period in
    let m = c.period_number-m.result in let images = c.in_ok-images.images.items in
    let rows = c.in_ok-rows.rows.items in let answer = c.answer_with.result in
    let dimension = ap (λ (G : Graph). G.dimension) (sym c.graph.ensures) ∙ c.vertices-n.ensures.parameter in
    let count = c.entries-entries.ensures ∙ ap (λ (n : ℕ). n * box_size g.row.D m) (c.vertices-n.ensures.count ∙ ap (λ (G : Graph). G.vertices) c.graph.ensures)
    ∙ ap (λ (n : ℕ). S.net.graph.vertices * box_size n m) (sym dimension)
    ∙ ap (λ (n : ℕ). S.net.graph.vertices * box_size S.net.graph.dimension n) c.period_number-m.ensures in
    let is = subst (λ (n : ℕ). AreImages S T n images) c.period_number-m.ensures c.in_ok-images.ensures in
    let rs = c.in_ok-rows.ensures ∙ ap (λ (n : ℕ). base_rows n p.result.shifts) (sym dimension) in
    let w = subst (λ (n : ℕ). IsWritten n p.result.m images rows answer) (sym dimension)
    (subst (λ (n : ℕ). IsWritten g.row.D n images rows answer) c.period_number-m.ensures c.answer_with.ensures) in
    written_due a b ka kb S T s t e c.args.cells.now c.requires.cells p.result.m p.result.shifts p.ensures c.args.room c.entries-entries.result count
    c.if-room-entries.false
    images rows is rs answer w
