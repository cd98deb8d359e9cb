pub mod Completeness
pub mod Headline
pub mod Inputs
pub mod Laws
pub mod Run
