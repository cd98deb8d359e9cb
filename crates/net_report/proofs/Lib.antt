pub mod CallerLemmas
pub mod Growing
pub mod KindsTold
pub mod TellingRows
pub mod TellingTexts
