-- What a search in breadth keeps of the paths that it finds.
use Rattle.std.specs.Prelude.{List, [], ◌∷◌, ◌++◌}
use Rattle.integers.proofs.lists.Members.{IsIn}
use Rattle.integers.specs.Vectors.{IsBelow}
use Rattle.periodic_net.specs.Graph.{Arc}
use Rattle.periodic_net.specs.Chosen.{step_key, IsBefore}

-- each path is before all that follow it in the list
abbrev pub AreRising : List (List Arc) → Type 0
AreRising [] = Unit {0}
AreRising (P ∷ Ps) = ((Q : List Arc) → IsIn Ps Q → IsBefore P Q) × AreRising Ps

-- the arcs rise by head and shift
abbrev pub AreSortedArcs : List Arc → Type 0
AreSortedArcs [] = Unit {0}
AreSortedArcs (f ∷ fs) = ((g : Arc) → IsIn fs g → IsBelow (step_key f) (step_key g)) × AreSortedArcs fs

-- P is gone on from by the arcs that are left, and then each of the paths that wait; found are all paths that were found
pub record IsBreadth (found waiting : List (List Arc)) (P : List Arc) (left : List Arc) : Type 0 where
  pub inside : (W : List Arc) → IsIn waiting W → IsIn found W
  pub rising : AreRising waiting
  pub after : (W : List Arc) → IsIn waiting W → IsBefore P W
  pub sorted : AreSortedArcs left
  pub here : (Q : List Arc) (f : Arc) → IsIn found Q → IsIn left f → IsBefore Q (P ++ f ∷ [])
  pub later : (Q W : List Arc) (g : Arc) → IsIn found Q → IsIn waiting W → IsBefore Q (W ++ g ∷ [])
