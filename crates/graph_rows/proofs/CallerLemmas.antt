-- The lemmas of this crate that other crates cite.
pub use Rattle.graph_rows.proofs.Lists.{none_rises, rows_joined, rows_mapped}
pub use Rattle.graph_rows.proofs.Edges.{below_before, rising_front}
pub use Rattle.graph_rows.proofs.PlainRows.{edge_none, number_at, same_edge, same_pos, same_size, size_none}
pub use Rattle.graph_rows.proofs.RowForms.{dim_short, short_wide}
pub use Rattle.graph_rows.proofs.GraphEdges.{edges_among}
