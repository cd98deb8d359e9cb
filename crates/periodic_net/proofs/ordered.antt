-- Ordered groups, and barycentric placements with coordinates in them.
pub mod Along
pub mod Groups
pub mod Translates
pub mod WholeNumbers
