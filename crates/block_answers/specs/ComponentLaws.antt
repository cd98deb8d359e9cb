-- What is reported of the components of a net is one.
use Rattle.std.specs.Prelude.{◌≡◌, ℕ, Bool, List}
use Rattle.periodic_net.specs.Graph.{Graph, IsGraph}
use Rattle.block_answers.specs.ComponentLines.{AreComponentsTold}

-- of a graph whose vertices have these names one text is reported, and whether it is accepted is one
abbrev pub OneTelling : Type 0
OneTelling = (G : Graph) (names : List (List ℕ)) (x y : Bool) (s t : List ℕ) → IsGraph G → AreComponentsTold G names x s → AreComponentsTold G names y t
    → (x ≡ y) × (s ≡ t)
