use Rattle.std.proofs.Common.{ℕ, ◌+◌, List, length, sym, subst, arith}
use Rattle.integers.specs.Vectors.{zero_vector}
use Rattle.periodic_net.specs.Graph.{IsQuotientVertex, vertex}
use Rattle.key_theory.specs.Kinds.{kind_of}
use Rattle.coordination.specs.Sequences.{AreShellsOf, IsOfEarlier}
use Rattle.coordination.proofs.box_count.next_sizes.Goals as goal

pub returns-in-Some-clause-sizes : goal.returns-in-Some-clause-sizes
returns-in-Some-clause-sizes g c =
    let P = c.args.cell.now.graph in let kinds = c.args.kinds.now in let lists = c.args.lists.now in
    let v = length lists + 1 in let k = kind_of kinds v in let more = c.requires.more in
    let found = rw c.in-Some.is at c.in_ok-sizes.ensures in
    let e : IsOfEarlier kinds lists v c.in-Some.sizes.items = subst (λ (n : ℕ). IsOfEarlier kinds lists (n + 1) c.in-Some.sizes.items) c.len.ensures found in
    let iv : IsQuotientVertex P v = (omega arith, omega (arith, more)) in let before = e.earlier in
    let ik : IsQuotientVertex P k = (c.requires.kinds.positive v iv, omega (arith, before, more)) in
    let list = c.requires.lists.each k ik (omega (arith, before)) in
    c.requires.kinds.same v c.in-Some.sizes.items iv ik (subst (λ (sizes : List ℕ). AreShellsOf P (vertex k zero_vector) sizes) (sym e.is_list) list)
