pub mod CallerLemmas
pub mod Edges
pub mod RowForms
pub mod Lists
pub mod PlainRows
pub mod GraphEdges
pub mod ReadGraphs
