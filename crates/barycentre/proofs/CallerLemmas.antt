-- The lemmas of this crate that other crates cite.
pub use Rattle.barycentre.proofs.Linear.{multiple_zero, gained, at_mean, same_zero}
pub use Rattle.barycentre.proofs.Recovered.{Lowest, lowest, two_steps_recover}
pub use Rattle.barycentre.proofs.Divisors.{lowest_divides}
pub use Rattle.barycentre.proofs.Stages.{not_reachable}
