pub mod Forms
pub mod Limits
pub mod Lines
pub mod Pieces
pub mod Places
pub mod Tokens
pub mod Views
pub mod Words
