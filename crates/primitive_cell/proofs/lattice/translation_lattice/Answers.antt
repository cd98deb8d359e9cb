use Rattle.std.proofs.Common.{◌≡◌, ◌∙◌, pos, sym, ap, FitsSigned, to_z, of_z, refl}
use Rattle.std.{specs.Int.w128, proofs.lemmas.Int.to_z-of_z}
use Rattle.periodic_net.specs.Graph.{Graph}
use Rattle.quotient_graph.specs.PlacedNets.{PlacedNet}
use Rattle.primitive_cell.proofs.WholeGraph.{lattice_made}
use Rattle.primitive_cell.proofs.lattice.translation_lattice.Goals as goal

pub returns : goal.returns
returns g c =
    let d = g.row.D in let k = c.graph.ensures in let d0 = c.d0.result in
    let f : FitsSigned w128 d0 = record { sfits = c.d0.type_inv } in
    let q : to_z w128 (of_z w128 d0) ≡ d0 = simp to_z-of_z refl in
    let z = q ∙ c.d0.ensures.value ∙ ap (λ (n : PlacedNet). pos n.placement.denominator) c.placed.ensures.placed in
    let dim = sym (ap (λ (h : Graph). h.dimension) k.graph) ∙ c.recall.ensures.parameter in
    let T = c.insert_all.new.self in
    lattice_made c.args.net.now k.is_graph k.stable c.args.translations.now c.requires c.from_bound-stairs.result T d
    (to_z w128 (of_z w128 d0)) dim z c.from_bound-stairs.ensures c.insert_all.ensures c.recall-2.ensures.basis
