pub mod CallerLemmas
pub mod Bezout
pub mod Quotients
pub mod Ring
pub mod Values
