pub mod CallerLemmas
pub mod Edges
pub mod Positions
pub mod Spelled
pub mod Stars
