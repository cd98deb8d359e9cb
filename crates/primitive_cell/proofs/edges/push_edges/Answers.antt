-- Of `push_edges`: the loop over `arc`; what it ensures; what `edge_of` requires.
use Rattle.std.proofs.Common.{◌≡◌, ◌+◌, Bool, true, false, List, lit<, sym, subst, Vec, Global}
use Rattle.periodic_net.specs.Graph.{Arc, IsNormalSpelling}
use Rattle.vecdim.specs.Stairs.{rows_of}
use Rattle.primitive_cell.proofs.MadePrimitive.{item_in, class_starts, class_passes, class_adds, class_ends}
use Rattle.primitive_cell.{specs.Given.AreGivenEdges, specs.Places.number_at, proofs.GivenEdges.IsArcUpTo}
use Rattle.primitive_cell.{proofs.edges.push_edges.Goals.then-is_normal+in_ok-push, proofs.edges.push_edges.Goals.else-is_normal}
use Rattle.primitive_cell.proofs.edges.push_edges.Goals as goal

pub loop-arc-init : goal.loop-arc-init
loop-arc-init g c =
    class_starts g.row.D c.args.net.now c.args.classes.now c.args.firsts.now c.args.stairs.now c.requires.cell c.args.class c.requires.class
    c.arcs-arc-items.result.now c.arcs-arc-items.ensures.arcs
    c.args.edges.now.items c.requires.below

pub edge_of-edge-requires : goal.edge_of-edge-requires
edge_of-edge-requires g c =
    let b = item_in g.row.D c.args.net.now c.args.classes.now c.args.firsts.now c.args.stairs.now c.requires.cell c.args.class c.requires.class
    c.arcs-arc-items.result.now c.arcs-arc-items.ensures.arcs
    c.loop-arc.arc-index c.arc-item.result c.loop-arc-test.true c.arc-item.is in
    (lit< tt, (lit< tt, (lit< tt, (lit< tt, (lit< tt, (c.requires.cell, b))))))

-- a test has one answer
one_answer : (b : Bool) → b ≡ true → b ≡ false → ⊥
one_answer b h k = cc

pub loop-arc-preserved : goal.loop-arc-preserved
loop-arc-preserved g c =
    let d = g.row.D in let N = c.args.net.now in let k = c.args.classes.now in let us = c.args.firsts.now in
    let S = c.args.stairs.now in let p = c.requires.cell in let n = c.args.class in
    let star = c.arcs-arc-items.result.now in let is = c.arcs-arc-items.ensures.arcs in
    let es = c.loop-arc.edges.items in let i = c.loop-arc.arc-index in
    let Done : List Arc → Type 0 = λ xs. AreGivenEdges d N.placement (number_at us) (rows_of d S) (IsArcUpTo k.classes n star (i + 1)) xs in
    elim c.if-is_normal.branch [
      | then-is_normal+in_ok-push w ↦
          let normal = c.is_normal.ensures.0 w.if-is_normal.true in
          let step = class_adds d N k us S p n c.requires.class star is es i c.arc-item.result c.edge_of-edge.result c.loop-arc-test.true c.arc-item.is
          c.loop-arc.invariant c.edge_of-edge.ensures normal in
          subst (λ (v : Vec _ Global). Done v.items) (sym w.edges-is) (subst Done (sym (w.in_ok-push.ensures).items) step)
      | else-is_normal w ↦
          let other = λ (h : IsNormalSpelling c.edge_of-edge.result). one_answer c.is_normal.result (c.is_normal.ensures.1 h) w.if-is_normal.false in
          let step = class_passes d N k us S p n c.requires.class star is es i c.arc-item.result c.edge_of-edge.result c.loop-arc-test.true c.arc-item.is
          c.loop-arc.invariant c.edge_of-edge.ensures other in
          subst (λ (v : Vec _ Global). Done v.items) (sym w.edges-is) step
    ]

pub returns : goal.returns
returns g c =
    class_ends g.row.D c.args.net.now c.args.classes.now c.args.firsts.now c.args.stairs.now c.requires.cell c.args.class c.requires.class
    c.arcs-arc-items.result.now c.arcs-arc-items.ensures.arcs
    c.loop-arc.edges.items c.loop-arc.arc-index c.loop-arc-test.false c.loop-arc.invariant
