pub mod CallerLemmas
pub mod Generated
pub mod Normals
pub mod PathSteps
pub mod Splits
pub mod Starting
