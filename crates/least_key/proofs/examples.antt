-- The square net.
pub mod SquareCertain
