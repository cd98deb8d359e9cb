pub mod counting
pub mod lists
pub mod numbers
pub mod vectors
