-- What does not stand at the beginning of what is left.
use Rattle.std.specs.Prelude.{◌≡◌, ℕ, List, ◌++◌, ◌∷◌}
use Rattle.integers.specs.Vectors.{Vector}
use Rattle.periodic_net.specs.Graph.{Vertex}
use Rattle.graph_rows.specs.declared.size.GraphSize.{GraphSize}
use Rattle.map_check.specs.Conditions.{IsImage, IsShift}
use Rattle.net_certificate.specs.Items.{IsPeriod}
use Rattle.net_certificate.specs.Rows.{period_row, image_row, base_row}

-- no period of maps from graphs of this size
abbrev pub NoPeriod : GraphSize → List ℕ → Type 0
NoPeriod s left = (m : ℕ) (rest : List ℕ) → IsPeriod s m → left ≡ period_row m ++ 10 ∷ rest → ⊥

-- no image of the vertex w, which is one of a net of dimension d, in a net of a graph of this size
abbrev pub NoImage : ℕ → Vertex → GraphSize → List ℕ → Type 0
NoImage d w s left =
    (x : Vertex) (rest : List ℕ) → IsImage s.dim s.vertices x → left ≡ image_row d s.dim w x ++ 10 ∷ rest → ⊥

-- no shift of dimension e
abbrev pub NoShift : ℕ → List ℕ → Type 0
NoShift e left = (v : Vector) (rest : List ℕ) → IsShift e v → left ≡ base_row e v ++ 10 ∷ rest → ⊥
