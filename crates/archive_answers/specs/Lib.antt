pub mod ArchiveBytes
pub mod ArchiveTexts
pub mod ItemEntries
pub mod ItemLaws
pub mod Laws
pub mod Outcomes
pub mod Reports
pub mod Unions
