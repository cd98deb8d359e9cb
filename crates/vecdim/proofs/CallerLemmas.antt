-- The lemmas of this crate that other crates cite.
pub use Rattle.vecdim.proofs.Adding.{with_has, with_inside, with_start, all_members}
pub use Rattle.vecdim.proofs.{Boxes.fits_within, Dividing.remainder, Dividing.small_products, Stairway.members_group, Stairway.rows_are_basis}
