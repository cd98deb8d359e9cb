pub mod CallerLemmas
pub mod OneAnswer
pub mod Placements
pub mod Splits
pub mod Truth
pub mod examples
