-- The lemmas of this crate that other crates cite.
pub use Rattle.exact.proofs.Quotients.{cancelled_denominator, cancelled_has_inverse, coprime_cancels, denominator_cancels, inverse_denominator_cancels}
pub use Rattle.exact.proofs.Quotients.{inverse_same, over_both, over_cancels, over_like, product_is_quotient, equal_residues, not_one, one_denominator}
pub use Rattle.exact.proofs.Ring.{class_plus, class_same, class_times, class_whole, divides_value, times_value_one, Value, formal, plus_value_assoc}
pub use Rattle.exact.proofs.Values.{crossed, denominators_equal, equal_decides, lowest_denominator, lowest_terms-prop, numerators_equal, same_denominator}
pub use Rattle.exact.proofs.Values.{same_numerator, sizes_crossed, zero_not_one, one_cancels, plus_cancels, plus_same, plus_zero, product_cancels}
pub use Rattle.exact.proofs.Values.{same_refl, same_sym, same_trans, times_cancels, times_same, times_zero, zero_times, cancel, cancels_of}
pub use Rattle.exact.proofs.Ring.{plus_value_cancel, plus_value_comm, same_from_class, times_value_comm, times_value_zero, values, IsInvertible, Semiring}
pub use Rattle.exact.proofs.{Quotients.small_multiple, Values.difference_multiple, Values.same_of}
unfoldable pub use Rattle.exact.proofs.Ring.{inverse_value, pivot_value, class, plus_value, times_value, whole_value}
