-- What holds of answers to `symmetry`.
use Rattle.std.specs.Prelude.{◌≡◌, ◌↔◌, ◌*◌, ℕ, List, length, Contains}
use Rattle.cgd_read.specs.Views.{BlockView}
use Rattle.periodic_net.specs.Graph.{Graph, IsVertex, Vertex}
use Rattle.periodic_net.specs.Maps.{BareIso}
use Rattle.quotient_graph.specs.PlacedNets.{PlacedNet}
use Rattle.net_report.specs.declared.status.Status.{Status}
use Rattle.net_symmetries.specs.Operations.{AreSymmetries, Operation, ShareOrbit}
use Rattle.net_operations.specs.Groups.{Group, IsGroupOf, VertexOrbit}
use Rattle.symmetry_answers.specs.Carried.{AreSymmetriesOver}
use Rattle.symmetry_answers.specs.Due.{IsSymmetryAs}

-- all symmetries of the one net are, carried over, all symmetries of the other
abbrev pub SymmetriesCarry : Type 0
SymmetriesCarry = (G P : Graph) (i : BareIso G P) (os : List Operation) → AreSymmetries P os → AreSymmetriesOver G P i os

-- some symmetry of the one net carries w to x if and only if the vertices over which they stand in the other are in one orbit
abbrev pub OrbitsCarry : Type 0
OrbitsCarry = (G P : Graph) (i : BareIso G P) (w x : Vertex) → IsVertex G w → IsVertex G x
    → ((e : BareIso G G) × (e.map w ≡ x)) ↔ ShareOrbit P (i.map w).over (i.map x).over

-- the size of an orbit of vertices, times the order of the stabilizer of one of them, is the number of operations
abbrev pub SizesTimesOrders : Type 0
SizesTimesOrders = (n : PlacedNet) (g : Group) → IsGroupOf n g → (o : VertexOrbit) → Contains g.vertices o → o.size * o.order ≡ length g.motions

-- two answers that are due to one list of blocks have one status and one text
abbrev pub OneSymmetry : Type 0
OneSymmetry = (blocks : List BlockView) (s t : Status) (x y : List ℕ) → IsSymmetryAs blocks s x → IsSymmetryAs blocks t y → (s ≡ t) × (x ≡ y)
