pub mod Bases
pub mod Coordinates
pub mod Divisors
pub mod Lattices
pub mod LinearRelations
pub mod Lists
pub mod Staircase
pub mod Vectors
