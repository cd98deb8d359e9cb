-- The primitive graph of a net with its key, as it is placed.
use Rattle.std.proofs.Common.{◌≡◌, List, ℤ, sym, subst, ◌∙◌, arith}
use Rattle.periodic_net.proofs.CallerLemmas.{bare_of_iso, iso_symmetric, one_placement}
use Rattle.periodic_net.specs.Graph.{Graph, IsGraph}
use Rattle.periodic_net.specs.Limits.{IsSmall}
use Rattle.periodic_net.specs.Maps.{BareIso, Iso}
use Rattle.periodic_net.specs.Placement.{HasNoCollision, IsStablePlacement, Placement}
use Rattle.key_theory.proofs.{CallerLemmas.class_iso, KeysDecide.iso_list}
use Rattle.key_theory.specs.{Key.IsLeastList, Key.Shape, PrimitiveLaws.HasOnlyShifts}
use Rattle.quotient_graph.specs.NetClasses.{AreClassesAt, AreClassesBy, class_at, NetClasses}
use Rattle.quotient_graph.specs.PlacedNets.{PlacedNet}
use Rattle.least_key.specs.KeyedNets.{IsKeyed, KeyedNet}
use Rattle.least_key.specs.Placings.{IsPlacedAs, IsSettledAs}
use Rattle.primitive_net.proofs.FewEdges.{few_classes, few_edges}
use Rattle.least_key.specs.{Truths.IsOfPlacing, Truths.IsTrueOf, declared.refusal.Refusal.Refusal}
use Rattle.primitive_net.specs.Faults.{AreNarrow, IsFaultOf, IsNearlySmall, IsUnplaced}
use Rattle.primitive_net.specs.declared.fault.PrimitiveFault.TheVariants.{Refused}
use Rattle.primitive_net.specs.PrimitiveNets.{IsPrimitiveNet}

-- the shape of a graph, from its classes in memory
abbrev shape_at : (G : Graph) (p : Placement) (c : NetClasses) → AreClassesAt G p c.numbers c.classes c.translations → Shape G
shape_at G p c h = record { placement = p; stable = h.stable; class_of = class_at c.numbers; classes = c.classes; is_classes = h.is_classes }

-- the least list of the one of two isomorphic nets is that of the other
least_there : (G H : Graph) → IsGraph G → IsGraph H → Iso G H → (s : Shape G) (t : Shape H) (xs : List ℤ) → IsLeastList s.classes xs → IsLeastList t.classes xs
least_there G H g h e s t xs l = record {
  some = iso_list G H g h e s t xs l.some;
  least = λ ys some. l.least ys (iso_list H G h g (iso_symmetric G H e) t s ys some);
}

module _ (n : KeyedNet) (k : IsKeyed n) where
  -- the net is stable
  stable : IsStablePlacement n.placed.graph n.placed.placement
  stable = record { connected = k.settled.placed.connected; placement = k.settled.placed.normal; no_collision = k.settled.no_collision }

  -- the primitive graph is within the limits, if its shifts are
  pub small : IsSmall n.placed.graph → AreNarrow n.cell.graph.edges → IsSmall n.cell.graph
  small s narrow = record {
    vertices =
        let a = few_classes n.placed.graph n.placed.placement (class_at n.cell.class_of) n.cell.graph.vertices k.cell.numbering k.cell.primitive.last in
        let b = s.vertices in omega (arith, a, b);
    edges =
        let a = few_edges n.placed.graph n.cell.graph (class_at n.cell.class_of) k.cell.divided.is_graph
        (class_iso n.placed.graph n.placed.placement (class_at n.cell.class_of) n.cell.basis n.cell.graph k.is_graph stable k.cell.numbering
        k.cell.primitive) in
        let b = s.edges in omega (arith, a, b);
    shifts = narrow;
  }

  pub nearly_small : IsSmall n.placed.graph → IsNearlySmall n.cell.graph
  nearly_small s = record { is_graph = k.cell.divided.is_graph; rising = k.cell.primitive.sorted; small = small s }

  -- as it is placed, no two vertices of its net meet
  pub apart : (p : PlacedNet) → IsPlacedAs n.cell.graph p → HasNoCollision p.graph p.placement
  apart p h =
      let d = k.cell.divided in let q = d.stable in
      let same = one_placement n.cell.graph d.is_graph h.connected q.0 p.placement q.1.placement h.normal in
      subst (λ (G : Graph). HasNoCollision G p.placement) (sym h.graph) (subst (HasNoCollision n.cell.graph) same q.1.no_collision)

  pub settled : (p : PlacedNet) → IsPlacedAs n.cell.graph p → IsSettledAs n.cell.graph p
  settled p h = record { placed = h; no_collision = subst (λ (G : Graph). HasNoCollision G p.placement) h.graph (apart p h) }

  -- and with its classes it is the primitive graph of the net
  pub primitive_of : (p : PlacedNet) (c : NetClasses) → IsSettledAs n.cell.graph p → IsSmall p.graph → c.graph ≡ p.graph → AreClassesBy p.placement c
      → IsPrimitiveNet n p c
  primitive_of p c h few same classes =
      let d = k.cell.divided in let graph = h.placed.graph in
      let here = subst (λ (G : Graph). AreClassesAt G n.placed.placement n.classes.numbers n.classes.classes n.classes.translations) k.same_graph k.classes in
      let there = subst (λ (G : Graph). AreClassesAt G p.placement c.numbers c.classes c.translations) (same ∙ graph) classes in
      record {
        graph = graph;
        small = few;
        settled = h;
        same_graph = same;
        classes = classes;
        only_shifts = subst HasOnlyShifts (sym graph) d.only_shifts;
        key = least_there n.placed.graph n.cell.graph k.is_graph d.is_graph d.iso (shape_at n.placed.graph n.placed.placement n.classes here)
            (shape_at n.cell.graph p.placement c there) n.key k.key;
        net = subst (BareIso n.placed.graph) (sym graph) (bare_of_iso n.placed.graph n.cell.graph d.iso);
      }

  -- where the graph is its own primitive graph, so is it as it stands
  pub own : n.placed.graph ≡ n.cell.graph → IsSmall n.placed.graph → IsPrimitiveNet n n.placed n.classes
  own e few = primitive_of n.placed n.classes (subst (λ (G : Graph). IsSettledAs G n.placed) e k.settled) few k.same_graph k.classes

-- a refusal of placing that is true of the graph is a fault of it, if no edge is past the limit
pub refused : (P G : Graph) (refusal : Refusal) → G ≡ P → AreNarrow P.edges → IsOfPlacing refusal → IsTrueOf G refusal → IsFaultOf P (Refused refusal)
refused P G refusal e narrow early h =
    by refusal (record { narrow = narrow; of_placing = early; is_true = subst (λ (H : Graph). IsTrueOf H refusal) e h })
  where
    by : (r : Refusal) → IsUnplaced P r → IsFaultOf P (Refused r)
    by r u = grind arith
