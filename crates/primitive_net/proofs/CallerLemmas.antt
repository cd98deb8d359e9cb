-- The lemmas of this crate that other crates cite.
pub use Rattle.primitive_net.proofs.OnePrimitive.{one_primitive_fault, one_primitive_net}
