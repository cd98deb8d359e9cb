use Rattle.std.proofs.Common.{sym, subst}
use Rattle.integers.{specs.Vectors.Vector, specs.Vectors.minus, proofs.vectors.Laws.minus_dimension}
use Rattle.vecdim.{specs.Lattices.Members, proofs.Remainders.divided_member, proofs.Remainders.divided_remainder}
use Rattle.vecdim.proofs.staircase.Staircase.remainder.Goals as goal

pub returns-clause-difference : goal.returns-clause-difference
returns-clause-difference g c =
    let d = c.divided.ensures.divided in let S = c.args.self.now in let v = c.args.v.now in
    let rest = c.divided.result.rests in let r = divided_remainder g.row.D c.divided.ensures.stair d in
    subst (λ (w : Vector). Members g.row.D S (minus v w)) (sym c.to_vector.ensures)
    (divided_member {S = S} {v = v} {r = rest} d, minus_dimension g.row.D v rest c.divided.ensures.dimension r.dimension)
