pub mod Lattices
pub mod SmallVectors
pub mod Stairs
pub mod Steps
