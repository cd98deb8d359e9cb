pub mod Faults
pub mod Laws
pub mod Quotients
pub mod Reduced
pub mod Values
