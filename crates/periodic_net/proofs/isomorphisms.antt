-- Maps of nets, bare and periodic, isomorphisms and symmetries, and what they carry.
pub mod AffineMaps
pub mod BareMaps
pub mod Bijections
pub mod CarriedClasses
pub mod CrystalGroups
pub mod FewLinearParts
pub mod Periods
pub mod StableNets
pub mod Symmetries
