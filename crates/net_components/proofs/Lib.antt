pub mod CallerLemmas
pub mod Covered
pub mod MadeParts
pub mod OneAnswer
pub mod PartArcs
pub mod PartNet
