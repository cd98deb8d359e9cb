-- Rows of residues, as whole numbers.
use Rattle.std.specs.Prelude.{ℕ, ◌-◌, pos, List, slice_get}
use Rattle.std.specs.Option.{option_map_or}
use Rattle.integers.specs.Vectors.{Vector, vector}
use Rattle.exact.specs.Ratio.{Ratio, whole}
use Rattle.vecdim.specs.declared.rows.Row.{Row}
use Rattle.residue.specs.declared.numbers.Residue.{Residue}
use Rattle.barycentre.specs.Recovered.{by_coordinate}

-- the value of a residue
abbrev pub residue_value : {M : ℕ} → Residue M → Ratio
residue_value r = whole (pos r.value)

-- part c of a row, with coordinates counted from 0
abbrev pub residue_part : {M D : ℕ} → Row (Residue M) D → ℕ → ℕ
residue_part r = by_coordinate r.x.value r.y.value r.z.value

-- part c of the row of vertex u, which is counted from 1; 0 if there is none
abbrev pub residue_at : {M D : ℕ} → List (Row (Residue M) D) → ℕ → ℕ → ℕ
residue_at rows c u = option_map_or (λ r. residue_part r c) (slice_get rows (u - 1)) 0

-- the parts of a row as a vector
abbrev pub residue_vector : {M D : ℕ} → Row (Residue M) D → Vector
residue_vector r = vector (pos r.x.value) (pos r.y.value) (pos r.z.value)
