-- Of `is_primitive`: its clauses.
use Rattle.std.proofs.Common.{◌∙◌, ap, sym, subst}
use Rattle.periodic_net.specs.{Limits.IsSmall}
use Rattle.least_key.specs.KeyedNets.{KeyedNet}
use Rattle.primitive_net.proofs.Primitive.{own}
use Rattle.primitive_net.proofs.whole.is_primitive.Goals as goal

pub returns-clause-yes : goal.returns-clause-yes
returns-clause-yes g c same =
    let n = c.args.net.now in let v = c.net.view_is in
    let graph = c.graph.ensures.graph ∙ ap (λ (m : KeyedNet). m.placed.graph) v in
    own n c.requires (sym graph ∙ sym (c.is_same_graph.ensures.yes same) ∙ ap (λ (m : KeyedNet). m.cell.graph) v)
    (subst IsSmall (ap (λ (m : KeyedNet). m.placed.graph) v) c.graph.ensures.small)

pub returns-clause-no : goal.returns-clause-no
returns-clause-no g c other e =
    let v = c.net.view_is in
    c.is_same_graph.ensures.no other
    (ap (λ (m : KeyedNet). m.cell.graph) v ∙ e ∙ sym (c.graph.ensures.graph ∙ ap (λ (m : KeyedNet). m.placed.graph) v))
