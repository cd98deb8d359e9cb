pub mod DividedNets
pub mod Given
pub mod Lattices
pub mod Places
pub mod PrimitiveCells
