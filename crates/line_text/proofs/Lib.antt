pub mod CallerLemmas
pub mod Texts
