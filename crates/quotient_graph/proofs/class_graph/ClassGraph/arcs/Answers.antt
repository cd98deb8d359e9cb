use Rattle.std.proofs.Common.{◌≡◌, ◌-◌, ◌<◌, ◌∙◌, [], length, map, ap, arith, sym, subst}
use Rattle.std.proofs.lemmas.List.{get_or-map, length-map}
use Rattle.periodic_net.specs.Classes.{ClassGraph}
use Rattle.periodic_net.specs.Correspondence.{IsClass}
use Rattle.quotient_graph.specs.ClassNets.{arcs_of, class_star, IsSmallNet}
use Rattle.quotient_graph.proofs.class_graph.ClassGraph.arcs.Goals as goal

pub returns : goal.returns
returns g c =
    let lists = c.self.inside.stars.items in let seen = c.self.view_is in
    let class = subst (λ (K : ClassGraph). IsClass K c.args.c) (sym seen) c.requires in
    let count = length-map lists (λ s. s.items) in
    let inside : c.args.c - 1 < length lists = omega (arith, class.0, class.1, count) in
    let list : c.index.result.now.items ≡ class_star (map (λ s. s.items) lists) c.args.c =
    ap (λ s. s.items) c.index.ensures ∙ sym (get_or-map (λ s. s.items) lists (c.args.c - 1) c.index.result.now [] inside) in
    record {
      arcs = c.deref.ensures.value ∙ list
          ∙ subst (λ (K : ClassGraph). class_star (map (λ s. s.items) lists) c.args.c ≡ arcs_of K c.args.c) seen (c.self.invariant.each c.args.c class);
      dimension = ap (λ (K : ClassGraph). K.dimension) (sym seen);
      small = subst IsSmallNet seen c.self.invariant.small;
    }
