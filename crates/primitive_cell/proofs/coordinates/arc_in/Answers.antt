-- Of `arc_in`: what `to_vector` requires; the clauses `same` and `within`.
use Rattle.std.proofs.Common.{◌≡◌, ◌∙◌, refl, sym, ap, subst, lit<, arith}
use Rattle.integers.specs.{Vectors.IsWithin, Vectors.Vector, Bases.base_sum}
use Rattle.periodic_net.specs.{Classes.ClassArc, Limits.most_units}
use Rattle.primitive_cell.{specs.Lattices.basis_of, proofs.WholeGraph.combination_is_sum}
use Rattle.primitive_cell.proofs.coordinates.arc_in.Goals as goal

-- a vector of an arc is within what the arc's is
of_arc : (v : Vector) (a b : ClassArc) → v ≡ a.vector → a ≡ b → IsWithin most_units b.vector → IsWithin most_units v
of_arc v a b e f h = subst (IsWithin most_units) (sym (e ∙ ap (λ (t : ClassArc). t.vector) f)) h

pub to_vector-requires : goal.to_vector-requires
to_vector-requires g c =
    let w = c.coordinates.ensures.within most_units (of_arc c.arc.inside.vector _ c.args.arc.now refl c.arc.view_is c.requires.short) in
    let x = w.0 in let y = w.1 in let z = w.2 in
    (lit< tt, ((omega (arith, x), omega (arith, y), omega (arith, z)), c.coordinates.ensures.dimension))

pub returns-clause-same : goal.returns-clause-same
returns-clause-same g c =
    let k = c.coordinates.result in
    let v = sym (combination_is_sum g.row.D c.requires.dimension c.args.lattice.now k c.coordinates.ensures.dimension) ∙ c.coordinates.ensures.value in
    let same : base_sum (basis_of c.args.lattice.now) c.to_vector.result ≡ c.arc.inside.vector =
    ap (base_sum (basis_of c.args.lattice.now)) c.to_vector.ensures ∙ v in
    (λ i. record { from = c.arc.inside.from; to = c.arc.inside.to; vector = same i }) ∙ c.arc.view_is

pub returns-clause-within : goal.returns-clause-within
returns-clause-within g c =
    rw c.to_vector.ensures (c.coordinates.ensures.within most_units (of_arc c.arc.inside.vector _ c.args.arc.now refl c.arc.view_is c.requires.short))
