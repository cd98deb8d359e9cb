-- Of `from_bound`: what it ensures; what `with_list` requires.
use Rattle.std.proofs.{Common.arith, Common.subst, Common.sym, lemmas.Int.to_z-of_z}
use Rattle.vecdim.proofs.Starting.{start_one, start_same, flat_start, positive, flat_multiples, start_multiples}
use Rattle.vecdim.proofs.staircase.Staircase.from_bound.Goals.{then-this-eq2, else-this-eq2}
use Rattle.vecdim.specs.{Stairs.Stairs, Lattices.Members, Lattices.AreMultiples}
use Rattle.vecdim.proofs.staircase.Staircase.from_bound.Goals as goal

pub with_list-requires : goal.with_list-requires
with_list-requires g c =
    let b = c.ranges.b in let r = c.requires in
    let p = positive c.args.b r.from in (
      omega arith,
      (
        r.two,
        (
          r.three,
          (
            elim c.if-this-eq2.branch [
              | then-this-eq2 w ↦ (λ d. flat_start _ _ w.last-is)
              | else-this-eq2 w ↦ (λ d. absurd (w.if-this-eq2.false d))
            ],
            elim c.if-this-eq2.branch [
              | then-this-eq2 w ↦ simp to_z-of_z (start_one c.args.b _ p r.to w.last-is)
              | else-this-eq2 w ↦ simp to_z-of_z (let e = w.last-is in start_same c.args.b _ p r.to (simp to_z-of_z at e))
            ],
          ),
        ),
      ),
    )

pub returns : goal.returns
returns g c =
    let b = c.ranges.b in let e = c.with_list.ensures in let f = simp to_z-of_z at e in
    subst (λ (S : Stairs). AreMultiples g.row.D c.args.b (Members g.row.D S)) (sym f)
    (elim c.if-this-eq2.branch [
      | then-this-eq2 w ↦ flat_multiples g.row.D c.args.b _ w.if-this-eq2.true w.last-is
      | else-this-eq2 w ↦ let l = w.last-is in start_multiples g.row.D c.args.b _ (simp to_z-of_z at l)
    ])
