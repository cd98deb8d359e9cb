-- The lemmas of this crate that other crates cite.
pub use Rattle.block_answers.proofs.KeysDecideNets.{read_graph}
pub use Rattle.block_answers.proofs.OneOutcome.{all_alike, keyed_is_accepted, one_report, one_telling, told_net, IsToldNet}
