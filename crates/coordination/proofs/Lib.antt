pub mod BoxCounting
pub mod BoxSearch
pub mod Boxes
pub mod CallerLemmas
pub mod ClassShells
pub mod Layers
pub mod OtherShells
pub mod PointShells
