pub mod Blocks
pub mod Carried
pub mod Due
pub mod GroupTexts
pub mod Laws
pub mod Texts
