-- The lemmas of this crate that other crates cite.
pub use Rattle.least_key.proofs.Truth.{key_of_graph, keys_tell, keys_tell_bare, nets_decide, known_error}
pub use Rattle.least_key.proofs.OneAnswer.{certain_is_not_refused, keyed_is_certain, one_refusal, placed_is_not_refused, one_net, one_placed}
