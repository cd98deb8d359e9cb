pub mod Ahead
pub mod CallerLemmas
pub mod FirstFaults
pub mod IsoGroups
pub mod NewEntry
pub mod OneFault
