-- The lemmas of this crate that other crates cite.
pub use Rattle.net_components.proofs.Covered.{one_least, copy_count}
pub use Rattle.net_components.proofs.PartNet.{written_below, flat_not_full, part_graph}
pub use Rattle.net_components.proofs.OneAnswer.{take_more, answer_is_one}
pub use Rattle.net_components.proofs.PartArcs.{one_normal, one_stair, sum_once, edge_written, passed_over, put_last, written_as, written_few, written_for}
pub use Rattle.net_components.proofs.PartArcs.{written_once}
