pub mod CallerLemmas
pub mod ItemEntries
pub mod ItemOutcomes
pub mod Unions
