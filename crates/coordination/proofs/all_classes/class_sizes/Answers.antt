use Rattle.std.proofs.Common.{◌≡◌, ℕ, ◌+◌, ◌-◌, subst, arith}
use Rattle.key_theory.specs.Kinds.{kind_of}
use Rattle.coordination.{specs.Sequences.AreShellsOfClass, specs.Sequences.IsOfEarlier, proofs.ClassShells.list_of_carried}
use Rattle.coordination.proofs.all_classes.class_sizes.Goals as goal

pub returns-in-Some : goal.returns-in-Some
returns-in-Some g c =
    let K = c.args.classes.now.classes in let kinds = c.args.kinds.now in let lists = c.args.lists.now in
    let d = c.args.class in let k = kind_of kinds d in
    let e : IsOfEarlier kinds lists d c.in-Some.sizes.items = rw c.in-Some.is at c.in_ok-sizes.ensures in
    let is_class = c.requires.kinds.is_class d c.requires.class in
    let before = e.earlier in let next = c.requires.next in let low = is_class.0 in
    let place : k - 1 + 1 ≡ k = omega (arith, low) in
    let list = rw (← e.is_list) at (c.requires.lists.each (k - 1) (omega (arith, before, low, next))) in
    list_of_carried K d k c.in-Some.sizes.items (c.requires.kinds.alike d c.requires.class).there
    (subst (λ (n : ℕ). AreShellsOfClass K n c.in-Some.sizes.items) place list)
