-- The lemmas of this crate that other crates cite.
pub use Rattle.net_certificate.proofs.FoundMaps.{found_few, found_maps_pass}
pub use Rattle.net_certificate.proofs.OneAnswer.{one_answer_alike, one_verdict}
pub use Rattle.net_certificate.proofs.WholeTexts.{no_fault, one_text, texts_tell}
