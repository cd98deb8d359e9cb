use Rattle.std.proofs.Common.{◌≡◌, map, take, All}
use Rattle.std.specs.{Option.is_some, List.filter}
use Rattle.integers.specs.Vectors.{IsWithin}
use Rattle.periodic_net.specs.Limits.{most_closed}
use Rattle.connected_dim.specs.{Search.walk_to, Generators.generator_of}
use Rattle.connected_dim.proofs.closed_walks.generators.Given as goal

abbrev pub invariant-loop-e : goal.invariant-loop-e
invariant-loop-e g l = record {
  made : l.walks.items ≡ map (generator_of l.found) (filter (λ e. is_some (walk_to l.found e.from)) (take l.e-index l.edges));
  within : All (IsWithin most_closed) l.walks.items;
}
