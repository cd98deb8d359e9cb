pub mod Steps
pub mod Places
pub mod Cuts
pub mod Ends
mod LineLists
mod Digits
