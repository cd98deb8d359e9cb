use Rattle.std.proofs.Common.{◌≡◌, ℕ, ◌<◌, length, get_or}
use Rattle.std.specs.List.{All}
use Rattle.periodic_net.specs.{Graph.Arc, Split.generator}
use Rattle.standard_map.specs.Turns.{IsTurn, shift_over, Turn}
use Rattle.standard_map.proofs.turns.turns.Given as goal

abbrev pub invariant-loop-edge : goal.invariant-loop-edge
invariant-loop-edge g l = record {
  count : length l.found.items ≡ l.edge-index;
  each : All (IsTurn l.here l.there) l.found.items;
  of_edges : (k : ℕ) (a : Arc) (t : Turn) → k < l.edge-index → (get_or l.found.items k t).shift ≡ generator (shift_over l.ends) (get_or l.edges k a);
}
