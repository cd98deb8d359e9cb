mod LineTokens
mod NamedRows
mod NewLists
mod ReadBack
mod ReadBlocks
mod Rounds
mod RowEdges
pub mod CallerLemmas
pub mod OneCovering
