pub mod CallerLemmas
pub mod CellRows
pub mod CoverMade
pub mod CoverNet
pub mod OneCover
