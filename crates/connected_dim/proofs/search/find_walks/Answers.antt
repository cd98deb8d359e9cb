use Rattle.std.proofs.Common.{◌+◌, ℕ, List, length, lit<, ap, ◌∙◌}
use Rattle.integers.specs.Vectors.{zero_vector}
use Rattle.connected_dim.specs.Search.{none_found, missing_count, found_with, order_with}
use Rattle.connected_dim.proofs.{Starting.search_start, Starting.walks_found, PathSteps.settled_start}
use Rattle.connected_dim.proofs.search.find_walks.Goals as goal

pub search-requires : goal.search-requires
search-requires g c =
    let G = c.args.g.now in let ok = c.in_ok-find.ensures in let empty = c.in_ok-order.ensures.items in
    let found = ok.found ∙ ap (λ fs. found_with fs c.args.start zero_vector) c.requires.none in
    let order = ok.order ∙ ap (λ fs. order_with fs c.in_ok-order.order.items c.args.start) c.requires.none
    ∙ ap (λ (os : List ℕ). order_with (none_found G.vertices) os c.args.start) empty in
    let together = ok.together ∙ ap (λ fs. missing_count fs + length c.in_ok-order.order.items) c.requires.none
    ∙ ap (λ (os : List ℕ). missing_count (none_found G.vertices) + length os) empty in
    let searched = search_start G c.args.start c.find.new.found c.find.new.order.items c.requires.start found order together in
    let settled = settled_start G c.args.start c.find.new.found c.find.new.order.items G.vertices order searched.first in
    (lit< tt, (lit< tt, (searched, (settled, c.vertices-n.ensures.small.vertices))))

pub returns : goal.returns
returns g c = record {
  walks = walks_found c.in_ok-search.ensures.searched c.vertices-n.ensures.small.vertices;
  chosen = c.in_ok-search.ensures.chosen;
}
