use Rattle.std.proofs.{Common.◌∙◌, Common.subst, Common.sym, lemmas.List.with_items_is, lemmas.Result.err_from_is_err_and}
use Rattle.connected_dim.specs.{Paths.AreChosenWalks, Search.AreWalks}
use Rattle.connected_dim.proofs.search.walks.Goals as goal

pub returns-in_err-found : goal.returns-in_err-found
returns-in_err-found g c =
    let told = err_from_is_err_and c.from_residual.result c.from_residual.ensures.1 in let known = c.vertices.ensures in
    record { walks = rw told.1 tt; chosen = rw told.1 tt; is_graph = known.is_graph; small = known.small }

pub returns-in_err-find_walks : goal.returns-in_err-find_walks
returns-in_err-find_walks g c =
    let told = err_from_is_err_and c.from_residual-in_err-find_walks.result c.from_residual-in_err-find_walks.ensures.1 in
    let known = c.vertices.ensures in
    record { walks = rw told.1 tt; chosen = rw told.1 tt; is_graph = known.is_graph; small = known.small }

pub returns : goal.returns
returns g c =
    let G = c.args.g.now in let known = c.vertices.ensures in
    let kept = with_items_is c.in_ok-found.found c.find_walks.new.found (c.find_walks.auto.found ∙ c.deref_mut.ensures.len) in
    record {
      walks = subst (AreWalks G c.args.start) (sym kept) c.in_ok-find_walks.ensures.walks;
      chosen = subst (AreChosenWalks G c.args.start) (sym kept) c.in_ok-find_walks.ensures.chosen;
      is_graph = known.is_graph;
      small = known.small;
    }
