pub mod CallerLemmas
pub mod Spelling
mod FieldLists
mod Graphs
mod Places
mod Units
mod Decided
