pub mod Bijections
pub mod CallerLemmas
pub mod Drawing
pub mod ImageNumbers
pub mod Layouts
pub mod LostArcs
pub mod Theorems
pub mod Verification
