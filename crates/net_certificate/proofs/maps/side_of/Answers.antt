-- Of `side_of`: what `new` requires; what it ensures. `side` is what they share.
use Rattle.std.proofs.Common.{ℤ, pos, List, get_or, lit<, sym, subst, ap, ◌∙◌}
use Rattle.std.{specs.Prelude.unsigned_abs, proofs.lemmas.Result.err_from_is_err_and}
use Rattle.periodic_net.specs.{Classes.ClassGraph, Graph.Graph}
use Rattle.key_theory.specs.{Primitive.IsLeastMember, Traversal.axes_of, Traversal.IsLeastScale}
use Rattle.quotient_graph.specs.{NetClasses.class_at, PlacedNets.PlacedNet}
use Rattle.standard_map.specs.{LeastPairs.IsLeastPair, Sides.net_side}
use Rattle.least_key.specs.KeyedNets.{KeyedNet, IsKeyed}
use Rattle.net_certificate.{specs.Written.IsSideOf, proofs.FoundMaps.scale_told, proofs.FoundMaps.side_parts}
use Rattle.net_certificate.proofs.maps.side_of.{Given.Over, Goals.After-scale_of-scale}
use Rattle.net_certificate.proofs.maps.side_of.Goals as goal

abbrev net : (g : Over) → After-scale_of-scale g → KeyedNet
net g c = record { placed = c.net.inside.stable; classes = c.net.inside.classes; cell = c.net.inside.primitive; key = c.net.inside.key }

-- the representative, the frame and the scale make the side of the net
side : (g : Over) (c : After-scale_of-scale g) → IsSideOf (net g c)
    (net_side c.placed-placed.result.now c.representative-origin.result c.in_ok-start.frame c.scale_of-scale.result)
side g c =
    let n = net g c in let K = c.net-class_net.result.now in let key = c.numbers-key.result.now in
    let start = c.in_ok-start.start in let frame = c.in_ok-start.frame in let q = c.scale_of-scale.result in
    let pair = c.in_ok-start.ensures in
    let scale = scale_told K start frame key q pair.pair.list c.scale_of-scale.ensures in
    record {
      net = c.placed-placed.ensures.placed;
      start = start;
      pair = subst (λ (xs : List ℤ). IsLeastPair n.classes.classes xs start frame) c.numbers-key.ensures
          (subst (λ (L : ClassGraph). IsLeastPair L key start frame) c.net-class_net.ensures.net pair);
      origin = subst (λ (G : Graph). IsLeastMember G (class_at n.classes.numbers) start c.representative-origin.result)
          (c.graph.ensures.graph ∙ ap (λ (p : PlacedNet). p.graph) c.placed-placed.ensures.placed) c.representative-origin.ensures;
      scale = subst (λ (L : ClassGraph). IsLeastScale L (axes_of frame) q) c.net-class_net.ensures.net scale;
      scale_is = c.scale_of-scale.ensures ∙ ap (λ (xs : List ℤ). unsigned_abs (get_or xs 2 (pos 0))) c.numbers-key.ensures;
    }

pub new-requires : goal.new-requires
new-requires g c =
    let at = (goal.at.new-requires g c).After-scale_of-scale in let frame = c.in_ok-start.frame in
    let q = c.scale_of-scale.result in let pair = c.in_ok-start.ensures in
    let scale = scale_told c.net-class_net.result.now c.in_ok-start.start frame c.numbers-key.result.now q pair.pair.list c.scale_of-scale.ensures in
    let parts = side_parts (net g at) c.net.invariant (net_side c.placed-placed.result.now c.representative-origin.result frame q) (side g at) in
    (lit< tt, (lit< tt, (lit< tt, (lit< tt, (pair.pair.is_frame, (scale, parts))))))

pub returns : goal.returns
returns g c =
    let at = (goal.at.returns g c).After-scale_of-scale in
    record {
      side = subst (λ (n : KeyedNet). IsSideOf n c.new.result) c.net.view_is (subst (IsSideOf (net g at)) (sym c.new.ensures) (side g at));
      keyed = subst IsKeyed c.net.view_is c.net.invariant;
    }

pub returns-in_err-start : goal.returns-in_err-start
returns-in_err-start g c =
    let told = err_from_is_err_and c.from_residual.result c.from_residual.ensures.1 in
    record { side = rw told.1 tt; keyed = subst IsKeyed c.net.view_is c.net.invariant }
