-- What holds in graphs with two vertices holds of each.
use Rattle.std.proofs.{Common.◌≡◌, Common.ℕ, Common.arith, Common.ℤ, Common.pos, Common.negsuc, Common.◌*ℤ◌, Math.Nat.eq-one_of_dvd-one}
use Rattle.periodic_net.specs.Graph.{Graph, IsQuotientVertex}
use Rattle.periodic_net.specs.Examples.{hanging_net, hanging_placement, honeycomb_net, honeycomb_placement}
use Rattle.periodic_net.specs.Placement.{IsNormalPlacement, IsCollision, HasNoCollision, IsBarycentric, IsNormal}
use Rattle.integers.specs.Vectors.{zero_vector}
use borrow.Author.Differences.{product_is}

-- what holds of both vertices holds of each
pub either : (G : Graph) → G.vertices ≡ 2 → (P : ℕ → Type 0) → P 1 → P 2 → (u : ℕ) → IsQuotientVertex G u → P u
either G h P k l u p = search arith

-- A graph with a collision: the square net with a vertex that hangs on the other, so that both have one position.

-- the placement is the normal one
pub hanging_normal_placement : IsNormalPlacement hanging_net hanging_placement
unfolding hanging_placement
hanging_normal_placement = search (arith, either, eq-one_of_dvd-one)

-- vertices 1 and 2 collide
pub hanging_collision : IsCollision hanging_net hanging_placement 1 2 zero_vector
unfolding hanging_placement
hanging_collision = search arith

-- so the placement is not without collisions
pub hanging_collides : ¬ HasNoCollision hanging_net hanging_placement
hanging_collides n = n 1 2 zero_vector hanging_collision

-- The honeycomb net: its normal placement is in units of 1/3.

-- each vertex stands at the mean of its neighbours
honeycomb_barycentric : IsBarycentric honeycomb_net honeycomb_placement
unfolding honeycomb_placement
honeycomb_barycentric = search (arith, either)

-- only 1 divides -1
divides_one : (k : ℕ) (w : ℤ) → negsuc 0 ≡ pos k *ℤ w → k ≡ 1
divides_one k w h = search (arith, product_is)

-- nothing can be cancelled
honeycomb_normal : IsNormal honeycomb_net honeycomb_placement
unfolding honeycomb_placement
honeycomb_normal = search (arith, divides_one)

-- the placement is the normal one, with D0 = 3
pub honeycomb_normal_placement : IsNormalPlacement honeycomb_net honeycomb_placement
honeycomb_normal_placement = record { barycentric = honeycomb_barycentric; normal = honeycomb_normal }
