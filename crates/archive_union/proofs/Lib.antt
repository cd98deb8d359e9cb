pub mod CallerLemmas
mod Unions
mod OneUnion
