pub mod Bytes
pub mod Due
pub mod Endings
pub mod Headline
pub mod KeyLists
pub mod Laws
pub mod Summaries
