-- The lines of a net that has its group.
use Rattle.std.proofs.Common.{◌≡◌, List, ℕ, ◌++◌, ◌∙◌, ap}
use Rattle.quotient_graph.specs.{NetClasses.NetClasses, PlacedNets.PlacedNet}
use Rattle.least_key.specs.KeyedNets.{KeyedNet}
use Rattle.primitive_net.specs.PrimitiveNets.{IsPrimitiveNet}
use Rattle.net_operations.specs.Groups.{Group, IsGroupOf}
use Rattle.symmetry_answers.specs.{Due.IsGroupTold, GroupTexts.group_text, Texts.cell_text, Texts.placing_text}
use Rattle.symmetry_answers.proofs.Carrying.{symmetries_carry}

-- with the cell, its placement and its group put last, one after the other, its group is told
pub group_told : (n : KeyedNet) (p : PlacedNet) (c : NetClasses) (g : Group) (cell placing text : List ℕ) → IsPrimitiveNet n p c → IsGroupOf p g
    → cell ≡ cell_text n → placing ≡ cell ++ placing_text p → text ≡ placing ++ group_text p.graph.dimension g → IsGroupTold n text
group_told n p c g cell placing text q h d e f = record {
  placed = p;
  classes = c;
  primitive = q;
  group = g;
  is_group = h;
  of_net = symmetries_carry n.placed.graph p.graph q.net h.operations h.all;
  text = f ∙ (λ i. (e ∙ ap (λ (t : List ℕ). t ++ placing_text p) d) i ++ group_text p.graph.dimension g);
}
