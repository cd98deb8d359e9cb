pub mod CallerLemmas
pub mod FewEdges
pub mod OnePrimitive
pub mod Primitive
