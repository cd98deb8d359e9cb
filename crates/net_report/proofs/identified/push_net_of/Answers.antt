use Rattle.std.proofs.Common.{◌≡◌, ◌++◌, ◌∙◌, ap, subst}
use Rattle.std.specs.Prelude.{OnOk}
use Rattle.least_key.specs.KeyedNets.{KeyedNet}
use Rattle.quotient_graph.specs.PlacedNets.{PlacedNet}
use Rattle.net_report.specs.{Identified.net_text, Keys.key_text, Placements.placement_text, Primitives.primitive_text}
use Rattle.net_report.proofs.Growing.{three_parts}
use Rattle.net_report.proofs.identified.push_net_of.Goals as goal

pub returns : goal.returns
returns g c =
    let r = c.push_key.result in let text = c.args.text.now.items in let last = c.push_key.new.text.items in
    let vertices = c.args.vertices.now in let n = c.net.inside in
    let placed = c.in_ok-push_placed.ensures ∙ ap (λ (p : PlacedNet). text ++ placement_text vertices p) c.placed-placed.ensures.placed in
    subst (λ (m : KeyedNet). OnOk r (last ≡ text ++ net_text vertices m)) c.net.view_is
    (three_parts r text c.push_placed.new.text.items c.push_primitive.new.text.items last (placement_text vertices n.stable) (primitive_text n.primitive)
    (key_text n.key) placed c.in_ok-push_primitive.ensures c.push_key.ensures)
