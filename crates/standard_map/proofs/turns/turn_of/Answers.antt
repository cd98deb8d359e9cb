-- Of `turn_of`: the clause `turn`; what `end_of`, `head_of` and `turn_between` require.
use Rattle.std.proofs.Common.{◌-◌, lit<, sym, subst, ap, ◌∙◌, arith}
use Rattle.integers.{specs.Bases.base_sum, specs.Vectors.HasDimension, proofs.vectors.Laws.minus_dimension}
use Rattle.periodic_net.{specs.Graph.Arc, specs.Limits.most_vertices, proofs.CallerLemmas.arc_inside}
use Rattle.quotient_graph.specs.Stars.{IsArcFrom}
use Rattle.standard_map.{specs.Search.HasEnd, specs.Turns.end_over, proofs.Searching.nearer, proofs.EdgeTurns.turn_carried, proofs.EdgeTurns.found_end}
use Rattle.standard_map.proofs.turns.turn_of.Goals as goal

pub end_of-tail-requires : goal.end_of-tail-requires
end_of-tail-requires g c =
    let inside = arc_inside c.args.here.now.net.graph c.requires.one_key.one_list.here c.args.edge.now c.requires.edge.is_arc in
    (lit< tt, subst (HasEnd c.args.ends.now) (sym (ap (λ (a : Arc). a.from) c.edge.view_is)) (c.requires.ends.every c.args.edge.now.from inside.from))

pub head_of-head-requires : goal.head_of-head-requires
head_of-head-requires g c =
    let S = c.args.here.now in let T = c.args.there.now in let a = c.args.edge.now in
    let inside = arc_inside S.net.graph c.requires.one_key.one_list.here a c.requires.edge.is_arc in
    let tail = c.end_of-tail.result in
    let is = c.end_of-tail.ensures ∙ ap (λ (x : Arc). end_over c.args.ends.now x.from) c.edge.view_is in
    let r = found_end S T c.args.ends.now c.requires.ends a.from inside.from tail is in
    let from : IsArcFrom S.net.graph tail.over a =
    record { is_arc = c.requires.edge.is_arc; from = sym r.2; to = c.requires.edge.to; shift = c.requires.edge.shift } in
    (lit< tt, (lit< tt, (lit< tt, (lit< tt, (c.requires.one_key, (from, (r.0, nearer (most_vertices - 1) most_vertices (omega arith) tail r.1)))))))

pub turn_between-requires : goal.turn_between-requires
turn_between-requires g c =
    let S = c.args.here.now in let T = c.args.there.now in let a = c.args.edge.now in
    let inside = arc_inside S.net.graph c.requires.one_key.one_list.here a c.requires.edge.is_arc in
    let tail = found_end S T c.args.ends.now c.requires.ends a.from inside.from c.end_of-tail.result
    (c.end_of-tail.ensures ∙ ap (λ (x : Arc). end_over c.args.ends.now x.from) c.edge.view_is) in
    let other = found_end S T c.args.ends.now c.requires.ends a.to inside.to c.end_of-other.result
    (c.end_of-other.ensures ∙ ap (λ (x : Arc). end_over c.args.ends.now x.to) c.edge.view_is) in
    (lit< tt, (lit< tt, (other.1, c.head_of-head.ensures.near (most_vertices - 1) tail.1)))

pub returns-clause-turn : goal.returns-clause-turn
returns-clause-turn g c =
    let S = c.args.here.now in let T = c.args.there.now in let a = c.args.edge.now in
    let inside = arc_inside S.net.graph c.requires.one_key.one_list.here a c.requires.edge.is_arc in
    let other = found_end S T c.args.ends.now c.requires.ends a.to inside.to c.end_of-other.result
    (c.end_of-other.ensures ∙ ap (λ (x : Arc). end_over c.args.ends.now x.to) c.edge.view_is) in
    let head = c.head_of-head.ensures in let t = c.turn_between.ensures in
    let over = head.over ∙ sym other.2 in
    record {
      carried = λ map m C h.
          ap (base_sum C) t.shift ∙ turn_carried S T c.head_of-head.result c.end_of-other.result head.end other.0 over map m C h ∙ sym t.image;
      shift = t.within_shift;
      image = t.within_image;
      dimension = subst (HasDimension S.net.graph.dimension) (sym t.shift)
          (minus_dimension S.net.graph.dimension c.head_of-head.result.shift c.end_of-other.result.shift head.end.is_vertex.cell (other.0).is_vertex.cell);
    }
