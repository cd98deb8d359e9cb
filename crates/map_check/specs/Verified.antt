-- What the check of a map answers.
use Rattle.std.specs.Prelude.{◌≡◌, ◌↔◌, ℕ, List}
use Rattle.integers.specs.Vectors.{Vector}
use Rattle.periodic_net.specs.Graph.{Graph, Vertex}
use Rattle.periodic_net.specs.Maps.{BareIso, IsDrawnBy, Iso}
use Rattle.map_check.specs.Laws.{IsIsomorphic}
use Rattle.map_check.specs.Layouts.{table_for}
use Rattle.map_check.specs.Faults.{IsVerdict}
use Rattle.map_check.specs.declared.verdict.Verdict.{Verdict}
use Rattle.map_check.specs.declared.verdict.Verdict.TheVariants.{Yes}

-- the verdict is true of the map that the table writes down
abbrev pub IsTold : (G H : Graph) (m : ℕ) (images : List Vertex) (rows : List Vector) → Verdict → Type 0
IsTold G H m images rows verdict =
    (f : Vertex → Vertex) → IsDrawnBy G (table_for G m images rows) f
    → IsVerdict G H (table_for G m images rows) f verdict

-- the verdict is true of the map f that the table writes down: it says the first fault, and it is Yes if and only if f is a
-- periodic map, one to one and onto, that joins images if and only if the vertices are joined; then the nets are isomorphic, and so are their
-- infinite graphs
pub record IsVerified (G H : Graph) (m : ℕ) (images : List Vertex) (rows : List Vector) (verdict : Verdict) : Type 0 where
  pub told : IsTold G H m images rows verdict
  pub exactly : (f : Vertex → Vertex) → IsDrawnBy G (table_for G m images rows) f
      → (verdict ≡ Yes) ↔ IsIsomorphic G H (table_for G m images rows) f
  pub iso : verdict ≡ Yes → Iso G H
  pub bare : verdict ≡ Yes → BareIso G H
