use Rattle.std.proofs.Common.{sym, ◌∙◌, ◌++◌, ◌∷◌, []}
use Rattle.std.proofs.lemmas.List.{map_more}
use Rattle.cgd_read.specs.Spelling.{edge_of}
use Rattle.quotient_graph.proofs.any_graph.edges_of.Goals as goal

pub loop-edge-preserved : goal.loop-edge-preserved
loop-edge-preserved g c =
    c.in_ok-push.ensures.items ∙ (λ i. c.loop-edge.invariant i ++ c.arc_of.ensures i ∷ [])
    ∙ sym (map_more edge_of c.args.edges.now c.loop-edge.edge-index _ c.loop-edge-test.true)
