-- Of `cover_graph`: the clauses `fault`, `cover`, `iso`, `size` and `coverable`; what `from_unsorted` requires. `made` is what most of them share.
use Rattle.std.proofs.Common.{◌∙◌, ◌*◌, ℕ, lit<, ap, subst}
use Rattle.periodic_net.specs.{Graph.IsGraph, Limits.IsSmall}
use Rattle.quotient_graph.specs.Stars.{graph_with}
use Rattle.sublattice.specs.Sublattices.{index_of}
use Rattle.net_cover.proofs.CoverMade.{AreMade, cell_fits, cell_lattice, given_cover, given_graph, given_of, given_small, given_within_limit, told_of}
use Rattle.net_cover.proofs.{CoverMade.wide_fault, CoverNet.covers_are_isomorphic}
use Rattle.net_cover.proofs.covering.cover_graph.{Goals.After-vertex_count-n, Given.Over}
use Rattle.net_cover.proofs.covering.cover_graph.Goals as goal

-- the edges are given, and so many vertices
made : (g : Over) (c : After-vertex_count-n g)
    → AreMade c.args.g.now c.args.cell.now c.lattice_in-lattice.result c.in-Ok-given_edges.edges.items c.in-Ok.index c.vertex_count-n.result
made g c =
    let G = c.args.g.now in let b = c.args.cell.now.rows in let k = c.recall.ensures in
    let f = c.in-Ok.ensures.fits in
    record {
      is_graph = k.is_graph;
      fits = f;
      lattice = cell_lattice G c.args.cell.now g.row.D c.lattice_in-lattice.result k.is_graph k.parameter f c.recall-2.ensures c.lattice_in-lattice.ensures;
      index_is = c.in-Ok.ensures.index ∙ ap (λ (d : ℕ). index_of d b) f.0.0.0;
      given = given_of G b g.row.D c.edges.result.now k.parameter c.edges.ensures.edges c.lattice_in-lattice.result c.in-Ok.index
          c.in-Ok-given_edges.edges.items c.in-Ok-given_edges.ensures.given;
      count_is = c.vertex_count-n.ensures ∙ ap (λ (m : ℕ). m * c.in-Ok.index) c.vertices.ensures.count;
    }

pub returns-in-Err-given_edges-clause-fault : goal.returns-in-Err-given_edges-clause-fault
returns-in-Err-given_edges-clause-fault g c =
    let G = c.args.g.now in let R = c.args.cell.now in let k = c.recall.ensures in
    let f = c.in-Ok.ensures.fits in let S = c.lattice_in-lattice.result in
    let h = cell_lattice G R g.row.D S k.is_graph k.parameter f c.recall-2.ensures c.lattice_in-lattice.ensures in
    let fault = c.in-Err-given_edges.fault in
    wide_fault G R S h f fault (told_of G R.rows g.row.D c.edges.result.now k.parameter c.edges.ensures.edges S fault c.in-Err-given_edges.ensures.wide)

pub from_unsorted-requires : goal.from_unsorted-requires
from_unsorted-requires g c =
    let k = c.recall.ensures in let m = made g (goal.at.from_unsorted-requires g c).After-vertex_count-n in
    let n = c.vertex_count-n.result in let es = c.in-Ok-given_edges.edges.items in
    let graph = subst (λ (d : ℕ). IsGraph (graph_with d n es)) k.parameter (given_graph m) in
    let small = subst (λ (d : ℕ). IsSmall (graph_with d n es)) k.parameter (given_small m) in
    (lit< tt, (lit< tt, (graph, small)))

pub returns-in-Ok-from_unsorted-clause-cover : goal.returns-in-Ok-from_unsorted-clause-cover
returns-in-Ok-from_unsorted-clause-cover g c =
    let H = c.in-Ok-from_unsorted.cover in
    given_cover (made g (goal.at.returns-in-Ok-from_unsorted-clause-cover g c).After-vertex_count-n) H
    (rw c.recall.ensures.parameter c.in-Ok-from_unsorted.ensures)

pub returns-in-Ok-from_unsorted-clause-iso : goal.returns-in-Ok-from_unsorted-clause-iso
returns-in-Ok-from_unsorted-clause-iso g c =
    let G = c.args.g.now in let R = c.args.cell.now in
    covers_are_isomorphic.iso G R.rows c.in-Ok-from_unsorted.cover c.recall.ensures.is_graph (cell_fits G R c.in-Ok.ensures.fits c.recall-2.ensures)
    (returns-in-Ok-from_unsorted-clause-cover g c)

pub returns-in-Ok-from_unsorted-clause-size : goal.returns-in-Ok-from_unsorted-clause-size
returns-in-Ok-from_unsorted-clause-size g c =
    let G = c.args.g.now in let R = c.args.cell.now in
    covers_are_isomorphic.size G R.rows c.in-Ok-from_unsorted.cover c.recall.ensures.is_graph (cell_fits G R c.in-Ok.ensures.fits c.recall-2.ensures)
    (returns-in-Ok-from_unsorted-clause-cover g c)

pub returns-in-Ok-from_unsorted-clause-coverable : goal.returns-in-Ok-from_unsorted-clause-coverable
returns-in-Ok-from_unsorted-clause-coverable g c =
    (c.in-Ok.ensures.fits, given_within_limit (made g (goal.at.returns-in-Ok-from_unsorted-clause-coverable g c).After-vertex_count-n))
