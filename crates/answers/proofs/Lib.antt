pub mod CallerLemmas
pub mod Headlines
mod Additions
mod Summaries
pub mod Endings
pub mod OneAnswer
mod MadeBlocks
