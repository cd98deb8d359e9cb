-- The lemmas of this crate that other crates cite.
pub use Rattle.line_text.proofs.Texts.{number_has_no, same_number, same_numbers, same_row, same_row_numbers, at_err, at_none, at_ok, at_some, bad_line_from}
pub use Rattle.line_text.proofs.Texts.{handed_on, none_from, result_from, some_from, rows_text_of_sum, sum_has_no, row_has_no, less_left}
pub use Rattle.line_text.proofs.Texts.{before_is, digits_have_no, numbers_have_no, onwards_is}
