-- Of `settled`: that no two vertices meet; what it ensures.
use Rattle.std.proofs.Common.{lit<, sym, subst, ◌∙◌, ap}
use Rattle.periodic_net.specs.Limits.{IsSmall}
use Rattle.quotient_graph.specs.{NetClasses.AreClassesBy, PlacedNets.PlacedNet}
use Rattle.primitive_net.specs.PrimitiveNets.{IsPrimitiveNet}
use Rattle.primitive_net.proofs.Primitive.{apart, primitive_of, settled}
use Rattle.primitive_net.proofs.divided.settled.Goals as goal

pub from_parts-stable-requires : goal.from_parts-stable-requires
from_parts-stable-requires g c = (lit< tt, (lit< tt, apart c.args.net.now c.requires.keyed c.args.placed c.requires.placed))

pub returns : goal.returns
returns g c =
    let n = c.args.net.now in let p = c.args.placed in let made = c.in_ok-made.made in let e = c.in_ok-made.ensures in
    let from = c.from_parts-stable.ensures in
    let same = e.stable ∙ from in
    let small = subst (λ (q : PlacedNet). IsSmall q.graph) from e.small in
    let graph = e.graph ∙ ap (λ (q : PlacedNet). q.graph) from in
    let classes = subst (λ (q : PlacedNet). AreClassesBy q.placement made.classes) from e.classes in
    subst (λ (q : PlacedNet). IsPrimitiveNet n q made.classes) (sym same)
    (primitive_of n c.requires.keyed p made.classes (settled n c.requires.keyed p c.requires.placed) small graph classes)
