pub mod Combination
pub mod Faults
pub mod Ratio
pub mod Values
