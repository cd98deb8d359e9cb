pub mod CallerLemmas
pub mod Carrying
pub mod Counts
pub mod OneSymmetry
pub mod Placing
pub mod Telling
pub mod Told
