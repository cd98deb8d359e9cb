-- Bounds that follow from the limits of the nets that are taken.
use Rattle.std.specs.Prelude.{ℕ, ◌*◌}
use Rattle.periodic_net.specs.Limits.{most_closed}

-- a part of the cross product of two closed walks, as an absolute value
abbrev pub most_normal : ℕ
most_normal = 2 * (most_closed * most_closed)

-- the volume that three closed walks span
abbrev pub most_volume : ℕ
most_volume = 3 * (most_normal * most_closed)
