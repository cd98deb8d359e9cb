pub mod Grammar
pub mod Words
pub mod Tasks
pub mod Views
