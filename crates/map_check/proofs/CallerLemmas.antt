-- The lemmas of this crate that other crates cite.
pub use Rattle.map_check.proofs.Layouts.{box_is_power, place_of_vertex, vertex_in_box}
