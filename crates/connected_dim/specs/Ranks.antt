-- What the rank of closed walks is answered by.
use Rattle.std.specs.Prelude.{ℕ, List}
use Rattle.integers.specs.Vectors.{Vector, IsWithin}
use Rattle.connected_dim.specs.Orthogonal.{IsFlatNormal}
use Rattle.connected_dim.specs.Full.{IsVolume}
use Rattle.connected_dim.specs.declared.ranks.Rank.{Rank}
use Rattle.connected_dim.specs.declared.ranks.Rank.TheVariants.{Below, Full}
use Rattle.connected_dim.specs.Bounds.{most_normal}

-- below the dimension with a normal, or full with a volume
abbrev pub IsRank : ℕ → List Vector → Rank → Type 0
IsRank d vs (Below c) = IsFlatNormal d vs c × IsWithin most_normal c
IsRank d vs (Full m) = IsVolume d vs m
