-- Lists: members, order, sums, filters, permutations.
pub mod GrownLists
pub mod ListOrder
pub mod Matched
pub mod Members
pub mod Permutations
pub mod Sums
pub mod Tables
