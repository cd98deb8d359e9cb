-- What holds of the primitive graph of a net in memory.
use Rattle.std.specs.Prelude.{◌≡◌, ◌≢◌}
use Rattle.periodic_net.specs.Graph.{Graph, IsGraph}
use Rattle.quotient_graph.specs.NetClasses.{NetClasses}
use Rattle.quotient_graph.specs.PlacedNets.{PlacedNet}
use Rattle.least_key.specs.KeyedNets.{KeyedNet}
use Rattle.primitive_net.specs.Faults.{IsFaultOf, no_memory}
use Rattle.primitive_net.specs.PrimitiveNets.{IsPrimitiveNet}
use Rattle.primitive_net.specs.declared.fault.PrimitiveFault.{PrimitiveFault}

-- the placement of the primitive graph of a net is one, and no fault but want of memory is then true of it
pub record OnePrimitiveNet : Type 0 where
  pub one : (m n : KeyedNet) (p q : PlacedNet) (c e : NetClasses) → IsGraph m.cell.graph → m.cell.graph ≡ n.cell.graph → IsPrimitiveNet m p c
      → IsPrimitiveNet n q e → p ≡ q
  pub faultless : (n : KeyedNet) (p : PlacedNet) (c : NetClasses) (fault : PrimitiveFault) → IsGraph n.cell.graph → IsPrimitiveNet n p c
      → IsFaultOf n.cell.graph fault → fault ≡ no_memory

-- two faults that are true of a graph, running out of memory aside, are one
abbrev pub OnePrimitiveFault : Type 0
OnePrimitiveFault = (P : Graph) (a b : PrimitiveFault) → IsGraph P → IsFaultOf P a → IsFaultOf P b → a ≢ no_memory → b ≢ no_memory → a ≡ b
