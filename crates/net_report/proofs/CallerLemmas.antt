-- The lemmas of this crate that other crates cite.
pub use Rattle.net_report.proofs.Growing.{report_last}
pub use Rattle.net_report.proofs.KindsTold.{as_many_kinds, kinds_at, kinds_last}
pub use Rattle.net_report.proofs.TellingTexts.{key_lines_tell, reports_tell}
