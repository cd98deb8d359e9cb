-- Quotient graphs, their arcs and walks, and splits.
pub mod Normals
pub mod SplitCases
pub mod Walks
