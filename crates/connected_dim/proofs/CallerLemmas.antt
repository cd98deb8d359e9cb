-- The lemmas of this crate that other crates cite.
pub use Rattle.connected_dim.proofs.Normals.{ends_by_one, ends_by_two, ends_by_zero}
pub use Rattle.connected_dim.proofs.Generated.{all_found, generators_closed, walk_at, walk_is, orthogonal_closed, closed_by_volume}
pub use Rattle.connected_dim.proofs.Starting.{some_value}
pub use Rattle.periodic_net.proofs.CallerLemmas.{closed_difference, walk_dimension}
