pub mod Unions
pub mod Faults
pub mod Laws
