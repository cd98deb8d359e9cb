pub mod BadLines
pub mod CallerLemmas
pub mod KeyNumbers
pub mod Regrouping
pub mod Walks
