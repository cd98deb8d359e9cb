-- Whole and natural numbers: the ring laws, division, divisors, order.
pub mod Division
pub mod Divisors
pub mod Order
pub mod Ring
