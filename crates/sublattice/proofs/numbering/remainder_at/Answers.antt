use Rattle.std.proofs.Common.{rules, sym, subst}
use Rattle.vecdim.specs.Stairs.{IsRemainder}
use Rattle.sublattice.proofs.Numbers.{remainder_stands}
use Rattle.sublattice.proofs.numbering.remainder_at.Goals as goal

pub returns-clause-value : goal.returns-clause-value
returns-clause-value g c = search rules

pub returns-clause-remainder : goal.returns-clause-remainder
returns-clause-remainder g c =
    subst (IsRemainder g.row.D c.args.lattice.now) (sym (returns-clause-value g c))
    (remainder_stands g.row.D c.args.lattice.now c.pivots_of-pivots.ensures.stair c.args.number c.requires.below)
