pub mod Refused
pub mod Texts
pub mod TextFaults
pub mod Words
