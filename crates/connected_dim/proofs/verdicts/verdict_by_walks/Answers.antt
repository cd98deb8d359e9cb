use Rattle.std.proofs.Common.{List, subst, ◌∙◌}
use Rattle.integers.specs.Vectors.{Vector}
use Rattle.connected_dim.specs.{Flat.flat_colouring, Orthogonal.IsFlatNormal}
use Rattle.connected_dim.proofs.{Generated.flat_split_is, Splits.flat_refusal}
use Rattle.connected_dim.proofs.verdicts.verdict_by_walks.Goals as goal

pub returns : goal.returns
returns g c =
    let G = c.args.g.now in let found = c.args.found.now in let graph = c.dimension-dim.ensures.is_graph in
    let vs = c.deref.ensures.value ∙ c.in_ok-gs.ensures.generators in
    let normal = rw (← c.dimension-dim.ensures.parameter) at (subst (λ (xs : List Vector). IsFlatNormal g.row.D xs c.in-Below.c) vs c.in-Below.ensures.0) in
    flat_refusal G c.in_ok-flat_split-in-Below.field-0 (flat_colouring c.in-Below.c found) graph
    (c.in_ok-flat_split-in-Below.ensures.dimension ∙ c.dimension-dim.ensures.value) c.in_ok-flat_split-in-Below.ensures.split
    (flat_split_is G found c.in-Below.c graph c.requires.walks c.requires.all normal)
