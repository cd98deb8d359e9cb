pub mod ComponentLaws
pub mod Deciding
pub mod Laws
pub mod Outcomes
pub mod Reports
pub mod Texts
pub mod ComponentLines
