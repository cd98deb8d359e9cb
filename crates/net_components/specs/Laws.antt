-- The theorem on what is answered, as a statement.
use Rattle.std.specs.Prelude.{◌≡◌, ◌≢◌, List, map}
use Rattle.periodic_net.specs.Graph.{Graph, IsGraph}
use Rattle.net_components.specs.Faults.{IsPartFault, no_memory}
use Rattle.net_components.specs.Parts.{AreParts, view_of}
use Rattle.net_components.specs.declared.fault.PartFault.{PartFault}
use Rattle.net_components.specs.declared.parts.Part.{Part}

-- a graph has parts, or a component of low rank, or a wide shift, and never two of these; the parts are one list, and the
-- fault is one, with its values
pub record AnswerIsOne : Type 0 where
  pub parts : (G : Graph) → IsGraph G → (ps qs : List Part) → AreParts G ps → AreParts G qs
      → map view_of ps ≡ map view_of qs
  pub exclude : (G : Graph) → IsGraph G → (ps : List Part) (f : PartFault) → AreParts G ps → IsPartFault G f
      → f ≡ no_memory
  pub fault : (G : Graph) → IsGraph G → (f g : PartFault) → IsPartFault G f → IsPartFault G g
      → f ≢ no_memory → g ≢ no_memory → f ≡ g
