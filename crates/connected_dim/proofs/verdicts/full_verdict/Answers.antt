use Rattle.std.proofs.Common.{ℤ, ◌≤ℤ◌, lit<, pos, refl, sym, subst, ◌∙◌, arith}
use Rattle.std.proofs.lemmas.Int.{ints}
use Rattle.vecdim.specs.Stairs.{HasStairShape}
use Rattle.connected_dim.{specs.Sparse.sparse_colouring, proofs.Splits.sparse_refusal, proofs.Splits.sparse_from_lattice, proofs.Generated.whole_connected}
use Rattle.connected_dim.proofs.verdicts.full_verdict.Goals as goal

one_of_two : (q : ℤ) → pos 2 ≤ℤ q → pos 1 ≤ℤ q
one_of_two q h = omega (arith, ints, h)

pub returns-in-None : goal.returns-in-None
returns-in-None g c =
    let G = c.args.g.now in let found = c.args.found.now in let S = c.closed_lattice-s.result in
    let graph = c.dimension-dim.ensures.is_graph in
    whole_connected G found S graph c.requires.walks c.requires.all c.closed_lattice-s.ensures (c.in-None.ensures.none refl)

pub returns-in_ok-sparse_split-in-Some : goal.returns-in_ok-sparse_split-in-Some
returns-in_ok-sparse_split-in-Some g c =
    let G = c.args.g.now in let found = c.args.found.now in let S = c.closed_lattice-s.result in
    let graph = c.dimension-dim.ensures.is_graph in
    let stair = subst (λ d. HasStairShape d S) (sym c.dimension-dim.ensures.parameter) c.first_dual_of.ensures.stair in
    sparse_refusal G c.in_ok-sparse_split-in-Some.field-0 (sparse_colouring c.in-Some.d.q c.in-Some.d.c found) graph
    (c.in_ok-sparse_split-in-Some.ensures.dimension ∙ c.dimension-dim.ensures.value)
    c.in_ok-sparse_split-in-Some.ensures.split
    (sparse_from_lattice G found S c.in-Some.d.q c.in-Some.d.c graph c.requires.walks c.requires.all c.closed_lattice-s.ensures stair
    (one_of_two c.in-Some.d.q c.in-Some.ensures.above) c.in-Some.ensures.dual)

pub sparse_split-requires : goal.sparse_split-requires
sparse_split-requires g c =
    let e = c.in-Some.ensures in (lit< tt, (one_of_two c.in-Some.d.q e.above, (e.small, (e.within, c.requires.walks.within))))
