use Rattle.std.proofs.Common.{◌∙◌, ℕ, List, length, sym, subst}
use Rattle.sublattice.specs.Sublattices.{base_of}
use Rattle.map_check.{specs.Images.AreNumbersOf, proofs.ImageNumbers.numbers_below, proofs.ImageNumbers.copies_found}
use Rattle.map_check.proofs.copies.first_copy.Goals as goal

pub first_repeat-requires : goal.first_repeat-requires
first_repeat-requires g c =
    let r = c.requires in let images = c.args.images.now in let s = c.lattice_of-lattice.ensures in
    let h = subst (λ (ns : List ℕ). AreNumbersOf g.row.D c.lattice_of-lattice.result images ns (length images))
    (sym c.deref.ensures.value) c.in_ok-numbers.ensures in
    numbers_below g.row.D c.args.n c.args.index c.lattice_of-lattice.result s.stair images c.deref.result.now r.images h (s.size ∙ sym r.index) r.count

pub returns : goal.returns
returns g c =
    let r = c.requires in let images = c.args.images.now in let s = c.lattice_of-lattice.ensures in
    let h = subst (λ (ns : List ℕ). AreNumbersOf g.row.D c.lattice_of-lattice.result images ns (length images))
    (sym c.deref.ensures.value) c.in_ok-numbers.ensures in
    copies_found g.row.D c.args.n c.lattice_of-lattice.result (base_of c.args.rows.now) s.stair s.members images c.deref.result.now r.images h
    c.first_repeat.result c.first_repeat.ensures
