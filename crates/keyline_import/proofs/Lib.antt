mod ItemLists
mod KeyGraphs
mod KeyLaw
pub mod CallerLemmas
