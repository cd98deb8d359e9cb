use Rattle.std.proofs.Common.{◌≡◌, ◌∙◌, ℤ, FitsSigned, to_z, of_z, pos, refl, sym, subst}
use Rattle.std.{proofs.lemmas.Int.to_z-of_z, specs.Int.w128}
use Rattle.integers.{specs.Vectors.Vector, specs.Vectors.zero_vector, proofs.lists.Members.IsIn, proofs.vectors.Laws.times_zero}
use Rattle.vecdim.{specs.Lattices.Members, specs.Lattices.AreMultiples, specs.Stairs.Stairs, proofs.CallerLemmas.with_has}
use Rattle.sublattice.proofs.Rows.{made_sublattice}
use Rattle.sublattice.proofs.generating.lattice_of.Goals as goal

pub returns : goal.returns
returns g c =
    let d = g.row.D in let S : Stairs = c.from_bound-lattice.result in
    let T : Stairs = c.insert_all.new.self in let rows = c.args.rows.now in
    let f : FitsSigned w128 c.from.result = record { sfits = c.from.type_inv } in
    let q : to_z w128 (of_z w128 c.from.result) ≡ c.from.result = simp to_z-of_z refl in
    let e : to_z w128 (of_z w128 c.from.result) ≡ pos c.args.index = q ∙ c.from.ensures in
    let m = subst (λ (z : ℤ). AreMultiples d z (Members d S)) e c.from_bound-lattice.ensures in
    let zero : Members d S zero_vector = (m zero_vector (λ _. refl)).1 (zero_vector, sym (times_zero (pos c.args.index))) in
    let flat : (v : Vector) → IsIn rows v → d ≡ 2 → v.z ≡ pos 0 = λ v i. (with_has (Members d S) (Members d T) rows c.insert_all.ensures zero v i).1 in
    made_sublattice d rows c.args.index S T c.requires.dimension c.requires.count flat c.requires.index c.requires.from m c.insert_all.ensures
    c.recall.ensures.stair c.recall.ensures.basis
