-- Vectors: independence, coordinates, lattices by their staircase bases, and their bounds.
pub mod Bounds
pub mod Directions
pub mod Independence
pub mod Laws
pub mod StairBasis
pub mod VectorRemainders
