pub mod Digits
pub mod Laws
pub mod Remainders
pub mod Residues
pub mod Sublattices
