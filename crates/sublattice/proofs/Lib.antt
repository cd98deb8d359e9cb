pub mod CallerLemmas
pub mod Numbers
pub mod Residues
pub mod RowNumbers
pub mod RowSteps
pub mod Rows
